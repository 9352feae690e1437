-- What a contract sees of a copy, and what stands between two of its turns.
use Rattle.std.specs.Prelude.{◌≡◌, ◌≢◌, ◌≤◌, ℕ, true, false, List, [], length, Option, Some, None}
use Rattle.lnbd_model.specs.declared.export.ExportInfo.{ExportInfo}
use Rattle.lnbd_model.specs.declared.target.Place.{Place}
use Rattle.lnbd_link.specs.Call as wire
use Rattle.lnbd_plan.specs.declared.options.CopyOptions.{CopyOptions}
use Rattle.lnbd_poll.specs.Held.{Held}
use Rattle.lnbd_board.specs.declared.how.How.{How}
use Rattle.lnbd_board.specs.declared.ticket.Ticket.{Ticket}
use Rattle.lnbd_board.specs.Files as board
use Rattle.lnbd_course.specs.AllDone.{WereAllDone}
use Rattle.lnbd_course.specs.Asks.{HasAskedOnce}
use Rattle.lnbd_course.specs.Carried.{HasCarried}
use Rattle.lnbd_course.specs.Counted.{HasNotCounted}
use Rattle.lnbd_course.specs.Driven.{AreDriven}
use Rattle.lnbd_course.specs.Flushes.{IsUnflushed}
use Rattle.lnbd_copy.specs.declared.copier.Progress.{Progress}
use Rattle.lnbd_copy.specs.declared.copier.Progress.TheVariants as progress
use Rattle.lnbd_copy.specs.declared.counts.Counts.{Counts}
use Rattle.lnbd_conduct.specs.declared.sides.Sides.{Sides}
use Rattle.lnbd_conduct.specs.declared.terms.Terms.{Terms}
use Rattle.lnbd_copy.specs.Agreed.{IsWished}
use Rattle.lnbd_conduct.specs.Limits.{AreLimited}
use Rattle.lnbd_conduct.specs.Links.{AllConnected}
use Rattle.lnbd_copy.specs.Connects.{StaysConnected}
use Rattle.lnbd_copy.specs.Dealt.{HasDealt, HasFit}
use Rattle.lnbd_copy.specs.Job as work
use Rattle.lnbd_conduct.specs.Connects.{AreLeftBy}
use Rattle.lnbd_copy.specs.Fewest.{HaveBeenDealt}
use Rattle.lnbd_copy.specs.Firsts.{KnowBoth}
use Rattle.lnbd_copy.specs.Lasting.{Lasts}
use Rattle.lnbd_copy.specs.Ready.{MayGoOn}
use Rattle.lnbd_conduct.specs.Terms.{IsLimited}
use Rattle.lnbd_copy.specs.Settled.{HasSettled, HasTerms}
use Rattle.lnbd_conduct.specs.Settled.{FlushesWanted, SparesFound, SparesTold}
use Rattle.lnbd_conduct.specs.Answered.{ReadsAreAnswered}
use Rattle.lnbd_copy.specs.Way.{Filed, IsOn, IsUnderWay, Stand, Way}
use Rattle.lnbd_conduct.specs.Told.{Told}
use Rattle.lnbd_conduct.specs.Slices.{WasCopiedWhole}

pub record Seen : Type 0 where
  pub options : CopyOptions
  pub from : Place
  pub to : Place
  -- what the wires had counted when it began
  pub start : Counts
  -- its connections
  pub held : List (Held Ticket)
  pub board : board.Seen
  -- what is under way, once all connections stand
  pub job : Option work.Seen

-- It has not begun, by options within their limits.
pub record HasNotBegun (copy : Seen) : Type 0 where
  pub limits : AreLimited copy.options
  pub held : copy.held ≡ []
  pub rows : copy.board.rows ≡ []
  pub begun : copy.board.begun ≡ 0
  pub uncounted : HasNotCounted copy.board
  pub well : copy.board.error ≡ None

-- Its connections.

-- no slice is begun, of a copy that writes so
abbrev pub beginning : Seen → (size : Option ℕ) → How → Sides → Way
beginning copy size how sides = record { from = copy.from; to = copy.to; size = size; how = how; sides = sides; slices = []; zero = λ p. false; whole = λ block p. false; asked = None; rested = None; heard = λ grain p. false; extents = copy.options.extents; reach = λ p. false; ended = false; flush = true; queries = 0 }

-- No slice was begun, and no flush asked for.
pub record IsBlank (now : board.Seen) : Type 0 where
  pub rows : now.rows ≡ []
  pub begun : now.begun ≡ 0
  pub unflushed : now.flushing ≡ false

-- Connections stand, and no slice is begun, of a copy that is to be made so.
pub record HasMet (copy : Seen) (start told : Option (List wire.Call)) (terms : Terms) : Type 0 where
  pub stand : Stand copy.held
  pub blank : IsBlank copy.board
  pub wished : IsWished copy.options terms
  pub limited : IsLimited copy.options terms
  pub on : Told start told (λ calls. IsOn (beginning copy (Some terms.size) terms.how terms.sides) copy.board calls copy.held)
  pub settled : HasTerms copy.options copy.from copy.to start told terms
  pub know : KnowBoth settled.source settled.destination copy.held
  pub connected : Told start told AllConnected

-- So it is by the calls since some transcript.
pub record HasMetOnce (copy : Seen) (terms : Terms) : Type 0 where
  pub start : Option (List wire.Call)
  pub told : Option (List wire.Call)
  pub met : HasMet copy start told terms

-- Further connections are made, each to the side that its place says, where so many were made before.
pub record GoesFurther (copy : Seen) (sides : Sides) (first : ℕ) (now : board.Seen) (held : List (Held Ticket)) (told : Option (List wire.Call)) (now' : board.Seen) (held' : List (Held Ticket)) (told' : Option (List wire.Call)) : Type 0 where
  pub stand : Stand held → Stand held'
  pub filed : Stand held → Filed now now'
  pub on : (size : Option ℕ) (how : How) (start : Option (List wire.Call)) → Stand held → length held ≡ first →
      Told start told (λ calls. IsOn (beginning copy size how sides) now calls held) → Told start told' (λ calls. IsOn (beginning copy size how sides) now' calls held')
  pub lasts : Stand held → Lasts told told'
  pub know : (source destination : ExportInfo) → KnowBoth source destination held → KnowBoth source destination held'
  pub connected : Stand held → StaysConnected told told'

-- Turns.

-- All its connections stand, and with its calls since the transcript was this it is so far.
pub record IsOnItsWay (start told : Option (List wire.Call)) (copy : Seen) : Type 0 where
  pub stand : Stand copy.held
  pub job : work.Seen
  pub there : copy.job ≡ Some job
  pub way : Way
  pub from : way.from ≡ copy.from
  pub to : way.to ≡ copy.to
  pub extents : way.extents ≡ copy.options.extents
  pub wished : IsWished copy.options job.terms
  -- no more slices are begun and not over than may be
  pub limited : IsLimited copy.options job.terms
  pub most : length copy.board.rows ≤ job.terms.limit
  pub is : work.IsJob job way copy.board
  pub on : Told start told (λ calls. IsUnderWay (work.is_parting job.phase) way copy.board calls copy.held)
  -- it is made as both sides told
  pub settled : HasSettled copy.options copy.from copy.to start told job.terms
  -- the slices that are begun and not over are spread over its connections, and are such as its terms settle
  pub spread : HasDealt job copy.board
  pub fit : HasFit job copy.board
  -- each went to the connections with the fewest
  pub dealt : HaveBeenDealt job.terms.sides copy.board
  -- each connect gave a link
  pub connected : Told start told AllConnected
  -- until its connections part no rule refuses what is asked, but those on how many commands there are, on how many bytes one has, and on whole blocks; and none is dead
  pub may : MayGoOn job copy.held
  -- no error was told
  pub well : copy.board.error ≡ None

-- It has begun and goes on, where this transcript is told now.
pub record IsGoing (told : Option (List wire.Call)) (copy : Seen) : Type 0 where
  pub start : Option (List wire.Call)
  pub on : IsOnItsWay start told copy

-- What is under way is settled, its board writes so and was told of no error, its slices are spread over its connections, and what it asks may be asked.
pub record HasJob (copy : Seen) : Type 0 where
  pub job : work.Seen
  pub there : copy.job ≡ Some job
  pub writes : copy.board.how ≡ job.terms.how
  pub well : copy.board.error ≡ None
  pub may : MayGoOn job copy.held
  pub spread : HasDealt job copy.board
  pub fit : HasFit job copy.board

-- Its connections part.
pub record IsParting (copy : Seen) : Type 0 where
  pub job : work.Seen
  pub there : copy.job ≡ Some job
  pub parts : work.is_parting job.phase ≡ true

-- It is finished: each connection has parted, and its calls carried each byte, asked nothing twice, and all of it was done, block statuses and flushes too, if it was from one place to another. Where its options want no flush none was asked for, and where one is wanted that the destination can make, it is done. One handle drove each link, and left it as a copy does.
-- Each slice to the source's end is finished.
pub record IsDone (start told : Option (List wire.Call)) (copy : Seen) : Type 0 where
  pub parted : copy.held ≡ []
  pub asked : copy.from ≢ copy.to → Told start told (HasAskedOnce copy.options.allocated copy.options.destination_is_zero copy.from copy.to)
  pub done : copy.from ≢ copy.to → Told start told (WereAllDone copy.from copy.to)
  pub spares : copy.from ≢ copy.to → Told start told (SparesTold copy.options.extents copy.from copy.to)
  pub carried : copy.from ≢ copy.to → Told start told (HasCarried copy.from copy.to copy.options.destination_is_zero)
  pub unflushed : copy.options.flush ≡ false → copy.from ≢ copy.to → Told start told (IsUnflushed copy.to)
  pub flushed : copy.from ≢ copy.to → Told start told (FlushesWanted copy.options copy.from copy.to)
  pub dense : copy.from ≢ copy.to → Told start told (SparesFound copy.options copy.from copy.to)
  pub answered : copy.from ≢ copy.to → Told start told (ReadsAreAnswered copy.options.extents copy.from)
  pub driven : Told start told AreDriven
  pub left : Told start told (AreLeftBy copy.options copy.from copy.to)
  pub whole : copy.from ≢ copy.to → Told start told (WasCopiedWhole copy.options copy.from copy.to)

-- After a turn it is on its way still, or it is finished.
abbrev pub HasTurned : (start told : Option (List wire.Call)) → Seen → Progress → Type 0
HasTurned start told copy (progress.Moved n) = IsOnItsWay start told copy
HasTurned start told copy progress.Still = IsOnItsWay start told copy
HasTurned start told copy (progress.Finished summary) = IsDone start told copy
