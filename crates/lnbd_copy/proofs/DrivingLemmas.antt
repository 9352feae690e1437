-- Steps drive links as a copy does, whatever the steps come to.
use Rattle.std.proofs.Common.{◌≡◌, ◌≢◌, inl, inr, ℕ, ◌+◌, zero, suc, Bool, true, false, List, [], ◌∷◌, ◌++◌, length, Option, Some, None, slice_get, refl, ap, sym, subst, ◌∙◌}
use Rattle.std.proofs.lemmas.Bool.{false≢true}
use Rattle.lnbd_model.specs.declared.target.Place.{Place}
use Rattle.lnbd_callbacks.specs.Calls.{Call}
use Rattle.lnbd_callbacks.specs.Steps.{OneByOne}
use Rattle.lnbd_handle.specs.Histories.{max_unretired}
use Rattle.lnbd_history.specs.Laws.{Lawful}
use Rattle.lnbd_asked.specs.Driven.{AllSpell, Drives}
use Rattle.lnbd_link.specs.Call as wire
use Rattle.lnbd_link.specs.Numbers.{is_given}
use Rattle.lnbd_link.specs.Traffic.{target_of}
use Rattle.lnbd_poll.specs.Alone.{calls_on}
use Rattle.lnbd_poll.specs.Held.{Held, AreAt}
use Rattle.lnbd_poll.specs.Seen.{Seen}
use Rattle.lnbd_poll.specs.Seen as poll
use Rattle.lnbd_poll.specs.Turned.{TurnsCut}
use Rattle.lnbd_poll.specs.Turns.{Ending, Short, Turns, Whole}
use Rattle.lnbd_drives.specs.Driving.{AllDrive}
use Rattle.lnbd_drives.proofs.Exports.{turns_give_none}
use Rattle.lnbd_drives.proofs.Passing.{both_off}
use Rattle.lnbd_drives.proofs.Turning.{short_turns_drive, turns_drive, turns_pass_others}
use Rattle.lnbd_plan.specs.declared.options.CopyOptions.{CopyOptions}
use Rattle.lnbd_board.specs.declared.how.How.{How}
use Rattle.lnbd_board.specs.declared.ticket.Ticket.{Ticket}
use Rattle.lnbd_board.specs.Files as board
use Rattle.lnbd_course.specs.Between.{place_of}
use Rattle.lnbd_course.specs.UnderWay.{AllHeld}
use Rattle.lnbd_course.proofs.Address.{given_stays, target_stays}
use Rattle.lnbd_course.proofs.Failing.{there_or_apart}
use Rattle.lnbd_conduct.specs.declared.sides.Sides.{Sides}
use Rattle.lnbd_conduct.specs.declared.terms.Terms.{Terms}
use Rattle.lnbd_conduct.specs.Connects.{one_each}
use Rattle.lnbd_copy.specs.Copier.{GoesFurther, HasMet, HasNotBegun, beginning}
use Rattle.lnbd_copy.specs.Copier as copier
use Rattle.lnbd_copy.specs.Driven.{AllDriveOn, AllUnended, AllWentOn, HasEnded, beginning_on}
use Rattle.lnbd_conduct.specs.Driven.{AreDrivenTo, AreInOrder, AreUnended, EndLast, IsUnended, WasDriven, WasUnended}
use Rattle.lnbd_copy.specs.Driving.{DrivesFurther, DrivesOn, DrivesOneMore}
use Rattle.lnbd_copy.specs.Faults.{GoesIdly}
use Rattle.lnbd_copy.specs.Lasting.{Lasts}
use Rattle.lnbd_copy.specs.Opening.{Dials}
use Rattle.lnbd_copy.specs.Opening as opening
use Rattle.lnbd_conduct.specs.Answered.{first_given}
use Rattle.lnbd_copy.specs.Way.{AreHeld, Goes, IsOn, IsUnderWay, Way}
use Rattle.lnbd_conduct.specs.Told.{Told}
use Rattle.lnbd_conduct.specs.Sides.{is_source}
use Rattle.lnbd_copy.proofs.CopierLemmas.{begins_on, destination_place, first_on, from_first, no_handles, one_some, second_on, source_place, to_second, told_as, with_held}
use Rattle.lnbd_copy.proofs.DrivenLemmas.{drive_later, driven_later, one_drove}
use Rattle.lnbd_copy.proofs.DrivenTurns.{AllSpelled, brought_apart, brought_on, brought_spelled, plain_spelled, turns_brought}
use Rattle.lnbd_copy.proofs.HeldLemmas.{held_on}
use Rattle.lnbd_copy.proofs.FailLemmas.{all_stand}
use Rattle.lnbd_copy.proofs.GroundLemmas.{dials_second, goes_first}
use Rattle.lnbd_copy.proofs.IdleLemmas.{StaysIdly, told_idly}
use Rattle.lnbd_copy.proofs.LastLemmas.{lasts_none, lasts_then}
use Rattle.lnbd_copy.proofs.OrderLemmas.{in_order, order_later}
use Rattle.lnbd_copy.proofs.TurnLemmas.{none_some, since_on, some_same, told_begins}
use Rattle.lnbd_copy.proofs.UnendedLemmas.{ended_turned, ends_stay}

abbrev steps : board.Seen → List (Call Ticket) → board.Seen → Type 0
steps = OneByOne board.Files

-- Handles that stand.

pub lawful_there : (held : List (Held Ticket)) (seens : List (Seen Ticket)) (index : ℕ) (seen : Seen Ticket) → AreAt held seens → slice_get seens index ≡ Some seen → Lawful max_unretired seen.history
lawful_there [] [] index seen at there = absurd (none_some seen there)
lawful_there [] (one ∷ all) index seen at there = absurd at
lawful_there (held ∷ others) [] index seen at there = absurd at
lawful_there (held ∷ others) (one ∷ all) zero seen at there = subst (λ (s : Seen Ticket). Lawful max_unretired s.history) (some_same one seen there) at.0.stands.lawful
lawful_there (held ∷ others) (one ∷ all) (suc index) seen at there = lawful_there others all index seen at.1 there

spelled_there : (seens : List (Seen Ticket)) (index : ℕ) (seen : Seen Ticket) → slice_get seens index ≡ Some seen → AllSpelled seens → AllSpell seen.history
spelled_there [] index seen there spelled = absurd (none_some seen there)
spelled_there (one ∷ others) zero seen there spelled = subst (λ (s : Seen Ticket). AllSpell s.history) (some_same one seen there) spelled.0
spelled_there (one ∷ others) (suc index) seen there spelled = spelled_there others index seen there spelled.1

drives_there : (calls : List wire.Call) (seens : List (Seen Ticket)) (index : ℕ) (seen : Seen Ticket) → slice_get seens index ≡ Some seen → AllDrive calls seens → Drives seen.link calls seen.history seen.unread
drives_there calls [] index seen there drive = absurd (none_some seen there)
drives_there calls (one ∷ others) zero seen there drive = subst (λ (s : Seen Ticket). Drives s.link calls s.history s.unread) (some_same one seen there) drive.0
drives_there calls (one ∷ others) (suc index) seen there drive = drives_there calls others index seen there drive.1

pub unended_there : (seens : List (Seen Ticket)) (index : ℕ) (seen : Seen Ticket) → slice_get seens index ≡ Some seen → AllUnended seens → IsUnended seen.history
unended_there [] index seen there unended = absurd (none_some seen there)
unended_there (one ∷ others) zero seen there unended = subst (λ (s : Seen Ticket). IsUnended s.history) (some_same one seen there) unended.0
unended_there (one ∷ others) (suc index) seen there unended = unended_there others index seen there unended.1

-- A link was driven by a handle that was not asked for the end of its connection.
one_unended : (extents : Bool) (from to : Place) (has : ℕ → Bool) (calls : List wire.Call) (seens : List (Seen Ticket)) (index : ℕ) (seen : Seen Ticket) → slice_get seens index ≡ Some seen → Lawful max_unretired seen.history → AllSpell seen.history → Drives seen.link calls seen.history seen.unread →
    target_of seen.link calls ≡ Some (place_of from to (has seen.link)).to → AllWentOn (beginning_on extents from to has calls) seens → (first_given calls ≡ Some seen.link → has seen.link ≡ true) → IsUnended seen.history → WasUnended extents from to (has seen.link) seen.link calls
unfolding one_drove
one_unended extents from to has calls seens index seen there lawful spelled drives address went first unended = record { driven = one_drove extents from to has calls seens index seen there lawful spelled drives address went first; unended = unended }

module _ (extents blank flush : Bool) (from to : Place) (has : ℕ → Bool) (calls : List wire.Call) (held : List (Held Ticket)) (seens : List (Seen Ticket)) (at : AreAt held seens) (drive : AllDrive calls seens) (spelled : AllSpelled seens)
    (address : (link : ℕ) → is_given link calls ≡ true → target_of link calls ≡ Some (place_of from to (has link)).to) (d : AllDriveOn extents from to has calls seens) where
  -- So was each, while all are held.
  all_unended : AllHeld calls seens → AllUnended seens → AreUnended extents from to calls
  all_unended all unended = record {
    has = has;
    each = λ link given. elim (there_or_apart link seens (all_stand held seens at)) [
      | inl t ↦
          subst (λ (n : ℕ). WasUnended extents from to (has n) n calls) t.same
          (one_unended extents from to has calls seens t.index t.seen t.there (lawful_there held seens t.index t.seen at t.there) (spelled_there seens t.index t.seen t.there spelled) (drives_there calls seens t.index t.seen t.there drive)
          (address t.seen.link (subst (λ (n : ℕ). is_given n calls ≡ true) (sym t.same) given)) d.went (d.first t.seen.link) (unended_there seens t.index t.seen t.there unended))
      | inr apart ↦ absurd (false≢true (sym (all link apart) ∙ given))
    ];
  }

  all_end : (ended parting : Bool) → AreHeld parting calls seens → HasEnded ended parting extents blank flush from to calls seens → EndLast extents blank flush from to calls
  all_end true false all ends = inr ends.end
  all_end true true all ends = inr ends.ends.end
  all_end false false all ends = inl (all_unended all ends)
  all_end false true all ends = absurd ends

-- By what they drive, and what others drove, all links were driven.
all_driven : (side : ℕ → Bool) (extents blank flush : Bool) (from to : Place) (has : ℕ → Bool) (calls : List wire.Call) (held : List (Held Ticket)) (seens : List (Seen Ticket)) → AreAt held seens → AllDrive calls seens → AllSpelled seens →
    ((link : ℕ) → is_given link calls ≡ true → target_of link calls ≡ Some (place_of from to (has link)).to) → ((link : ℕ) → is_given link calls ≡ false → calls_on link calls ≡ []) → AllDriveOn extents from to has calls seens →
    (ended parting : Bool) → AreHeld parting calls seens → HasEnded ended parting extents blank flush from to calls seens → AreInOrder side has calls → AreDrivenTo side extents blank flush from to calls
all_driven side extents blank flush from to has calls held seens at drive spelled address unused d ended parting all ends order = record {
  has = has;
  order = order;
  each = λ link given. elim (there_or_apart link seens (all_stand held seens at)) [
    | inl t ↦
        subst (λ (n : ℕ). WasDriven extents from to (has n) n calls) t.same
        (one_drove extents from to has calls seens t.index t.seen t.there (lawful_there held seens t.index t.seen at t.there) (spelled_there seens t.index t.seen t.there spelled) (drives_there calls seens t.index t.seen t.there drive)
        (address t.seen.link (subst (λ (n : ℕ). is_given n calls ≡ true) (sym t.same) given)) d.went (d.first t.seen.link))
    | inr apart ↦ (d.left link apart given).driven
  ];
  none = unused;
  ends = all_end extents blank flush from to has calls held seens at drive spelled address d ended parting all ends;
}

-- Between two turns,
pub on_driven : (parting : Bool) (way : Way) (now : board.Seen) (calls : List wire.Call) (held : List (Held Ticket)) → IsUnderWay parting way now calls held → AreDrivenTo (is_source way.sides) way.extents way.how.skip way.flush way.from way.to calls
on_driven parting way now calls held on =
    let course = on.stands.between.course in
    all_driven (is_source way.sides) way.extents way.how.skip way.flush way.from way.to on.has calls held on.seens on.at course.drive.drive (plain_spelled on.seens course.drive.plain) on.stands.between.placed.address (λ link new. (course.unused link new).quiet) on.drives way.ended parting on.all on.ends (in_order parting way.sides on.has calls on.seens on.sided on.order)

-- while no connection was to end
pub on_unended : (way : Way) (now : board.Seen) (calls : List wire.Call) (held : List (Held Ticket)) → way.ended ≡ false → IsOn way now calls held → AreUnended way.extents way.from way.to calls
on_unended way now calls held not on =
    let course = on.stands.between.course in
    all_unended way.extents way.how.skip way.flush way.from way.to on.has calls held on.seens on.at course.drive.drive (plain_spelled on.seens course.drive.plain) on.stands.between.placed.address on.drives on.all
    (subst (λ (e : Bool). HasEnded e false way.extents way.how.skip way.flush way.from way.to calls on.seens) not on.ends)

-- and after one, whole or short.
module _ (parting : Bool) (way : Way) (now now' : board.Seen) (calls part : List wire.Call) (held held' : List (Held Ticket)) (after : List (Seen Ticket)) (ending : Ending) (on : IsUnderWay parting way now calls held) (turns : Turns steps on.seens now part after now' ending) (at : AreAt held' after) where
  none_given : (link : ℕ) → is_given link part ≡ false
  none_given link = turns_give_none steps link part on.seens after now now' ending turns

  drive_after : (how : Ending) → ending ≡ how → AllDrive (calls ++ part) after
  drive_after (Whole moved) is = (turns_drive steps calls part on.seens after now now' moved on.stands.between.course.drive (subst (λ (e : Ending). Turns steps on.seens now part after now' e) is turns)).drive
  drive_after Short is = (short_turns_drive steps calls part on.seens after now now' on.stands.between.course.drive (subst (λ (e : Ending). Turns steps on.seens now part after now' e) is turns)).1

  turned_driven : AreDrivenTo (is_source way.sides) way.extents way.how.skip way.flush way.from way.to (calls ++ part)
  turned_driven =
      let course = on.stands.between.course in
      let brought = turns_brought on.seens now part after now' ending turns in
      all_driven (is_source way.sides) way.extents way.how.skip way.flush way.from way.to on.has (calls ++ part) held' after at (drive_after ending refl) (brought_spelled on.seens after brought (plain_spelled on.seens course.drive.plain))
      (λ link given. target_stays link calls part (none_given link) ∙ on.stands.between.placed.address link (sym (given_stays link calls part (none_given link)) ∙ given))
      (λ link new.
      let u = course.unused link (sym (given_stays link calls part (none_given link)) ∙ new) in
      both_off link calls part u.quiet (turns_pass_others steps link part on.seens after now now' ending u.apart turns))
      (drive_later way.extents way.from way.to on.has calls part on.seens after none_given (λ link. brought_apart link on.seens after brought)
      (λ link apart. turns_pass_others steps link part on.seens after now now' ending apart turns) (brought_on (beginning_on way.extents way.from way.to on.has calls) on.seens after brought) on.drives)
      way.ended parting (held_on parting calls part on.seens after (λ link. brought_apart link on.seens after brought) none_given on.all) (ended_turned way.extents way.how.skip way.flush way.from way.to calls part none_given way.ended parting on.seens after (λ link apart. turns_pass_others steps link part on.seens after now now' ending apart turns) brought on.ends)
      (order_later (is_source way.sides) on.has calls part none_given (in_order parting way.sides on.has calls on.seens on.sided on.order))

-- Calls that read and write no link, and give none.

pub driven_stays : (side : ℕ → Bool) (extents blank flush : Bool) (from to : Place) → StaysIdly (AreDrivenTo side extents blank flush from to)
driven_stays side extents blank flush from to calls more quiet none d = record {
  has = d.has;
  order = order_later side d.has calls more none d.order;
  each = λ link given. driven_later extents from to (d.has link) link calls more (quiet link) none (d.each link (sym (given_stays link calls more (none link)) ∙ given));
  none = λ link new. both_off link calls more (d.none link (sym (given_stays link calls more (none link)) ∙ new)) (quiet link);
  ends = ends_stay extents blank flush from to calls more quiet none d.ends;
}

driven_idly : (side : ℕ → Bool) (extents blank flush : Bool) (from to : Place) (start a b : Option (List wire.Call)) → GoesIdly a b → Told start a (AreDrivenTo side extents blank flush from to) → Told start b (AreDrivenTo side extents blank flush from to)
driven_idly side extents blank flush from to start a b idly told = told_idly (AreDrivenTo side extents blank flush from to) start a b (driven_stays side extents blank flush from to) idly told

idly_lasts : (a b : Option (List wire.Call)) → GoesIdly a b → Lasts a b
idly_lasts a b idly = record { on = λ all is. (let idle = idly.on all is in record { before = idle.before; after = idle.more; are = idle.are; is = idle.was }) }

-- Steps.

pub drives_none : (now : board.Seen) (held : List (Held Ticket)) (told : Option (List wire.Call)) → DrivesOn now held told told
drives_none now held told = record { on = λ parting way start stand is. told_as start told (λ calls on. on_driven parting way now calls held on) is; lasts = λ stand. lasts_none told }

pub goes_drive : (now now' : board.Seen) (held held' : List (Held Ticket)) (a b : Option (List wire.Call)) → Goes now held a now' held' b → DrivesOn now held a b
goes_drive now now' held held' a b goes = record { on = λ parting way start stand is. told_as start b (λ calls on. on_driven parting way now' calls held' on) (goes.on parting way start stand is); lasts = goes.lasts }

pub drives_then : (now now2 : board.Seen) (held held2 : List (Held Ticket)) (a b c : Option (List wire.Call)) → Goes now held a now2 held2 b → DrivesOn now2 held2 b c → DrivesOn now held a c
drives_then now now2 held held2 a b c goes drives = record { on = λ parting way start stand is. drives.on parting way start (goes.stand stand) (goes.on parting way start stand is); lasts = λ stand. lasts_then a b c (goes.lasts stand) (drives.lasts (goes.stand stand)) }

pub drives_idly : (now : board.Seen) (held : List (Held Ticket)) (a b c : Option (List wire.Call)) → DrivesOn now held a b → GoesIdly b c → DrivesOn now held a c
drives_idly now held a b c drives idly = record { on = λ parting way start stand is. driven_idly (is_source way.sides) way.extents way.how.skip way.flush way.from way.to start b c idly (drives.on parting way start stand is); lasts = λ stand. lasts_then a b c (drives.lasts stand) (idly_lasts b c idly) }

pub cut_drives : (a b : Option (List wire.Call)) (f g : ℕ) (now now' : board.Seen) (held held' : List (Held Ticket)) →
    poll.Goes a b (λ seens. AreAt held seens) (λ seens. AreAt held' seens) (λ before calls after. TurnsCut steps f g before now calls after now') → DrivesOn now held a b
cut_drives a b f g now now' held held' goes = record {
  on = λ parting way start stand told. record {
    since = λ all is.
        let first = (goes stand.seens stand.at).grown all is in
        let since = told.since first.0 first.1 in
        let went = goes since.is.seens since.is.at in
        let grown = went.grown all is in
        let same : grown.0 ≡ first.0 = some_same grown.0 first.0 (sym grown.1 ∙ first.1) in
        since_on start first.0 all went.calls (grown.2 ∙ ap (λ (l : List wire.Call). l ++ went.calls) same) since
        (turned_driven parting way now now' since.calls went.calls held held' went.after went.leads.ending since.is went.leads.turns went.at);
  };
  lasts = λ stand. record {
    on = λ all is.
        let went = goes stand.seens stand.at in
        let grown = went.grown all is in
        record { before = grown.0; after = went.calls; are = grown.2; is = grown.1 };
  };
}

-- Connections.

pub one_none : (place : Place) (extents : Bool) (now : board.Seen) (held : List (Held Ticket)) (told : Option (List wire.Call)) → DrivesOneMore place extents now held told told
one_none place extents now held told = record { on = λ way start there wants only unended is. told_as start told (λ calls on. on_driven false way now calls held on) is }

pub one_dials : (place : Place) (extents : Bool) (now : board.Seen) (held held' : List (Held Ticket)) (a b : Option (List wire.Call)) → Dials place extents now held a held' b → DrivesOneMore place extents now held a b
one_dials place extents now held held' a b dials = record { on = λ way start there wants only unended is. told_as start b (λ calls on. on_driven false way now calls held' on) (dials.on way start there wants only unended is) }

pub one_idly : (place : Place) (extents : Bool) (now : board.Seen) (held : List (Held Ticket)) (a b c : Option (List wire.Call)) → DrivesOneMore place extents now held a b → GoesIdly b c → DrivesOneMore place extents now held a c
one_idly place extents now held a b c one idly = record { on = λ way start there wants only unended is. driven_idly (is_source way.sides) way.extents way.how.skip way.flush way.from way.to start b c idly (one.on way start there wants only unended is) }

-- What the first handle asks for is what the options want.
pub one_as : (options : CopyOptions) (place : Place) (extents : Bool) (now : board.Seen) (held : List (Held Ticket)) (a b : Option (List wire.Call)) → extents ≡ options.extents → DrivesOneMore place extents now held a b → DrivesOneMore place options.extents now held a b
one_as options place extents now held a b same one = subst (λ (e : Bool). DrivesOneMore place e now held a b) same one

none_held : (copy : copier.Seen) → HasNotBegun copy → length copy.held ≡ 0
none_held copy none = ap (λ (l : List (Held Ticket)). length l) none.held

not_asked : {A : Type 0} → false ≡ true → A
not_asked e = absurd (false≢true e)

-- how a copy writes that leaves zeros out where its options say that the destination is zero
abbrev pub wished_how : copier.Seen → How
wished_how copy = record copy.board.how { skip = copy.options.destination_is_zero }

-- The source's first.
pub source_dialed : (copy : copier.Seen) (t u : Option (List wire.Call)) → DrivesOneMore copy.from copy.options.extents copy.board copy.held t u → HasNotBegun copy → Told t u (AreDrivenTo (is_source one_each) copy.options.extents copy.options.destination_is_zero true copy.from copy.to)
source_dialed copy t u one none =
    let how = wished_how copy in
    one.on (beginning copy None how one_each) t (from_first copy how one_each (length copy.held) (none_held copy none)) (λ empty. refl) (λ asks. none_held copy none) refl (told_begins t (begins_on copy how one_each none))

module _ (s0 s1 : copier.Seen) (t u : Option (List wire.Call)) (same : s1.board ≡ s0.board) (first : Dials s0.from s0.options.extents s0.board s0.held t s1.held u) (none : HasNotBegun s0) where
  abbrev way : Way
  way = beginning s0 None (wished_how s0) one_each

  -- while it negotiates
  pub source_settled : (c : Option (List wire.Call)) → DrivesOn s1.board s1.held u c → Told t c (AreDrivenTo (is_source one_each) s0.options.extents s0.options.destination_is_zero true s0.from s0.to)
  source_settled c drives =
      drives.on false way t (first.stand (no_handles s0 none)) (subst (λ (b : board.Seen). Told t u (λ calls. IsOn way b calls s1.held)) (sym same) (first_on s0 s1.held t u (wished_how s0) one_each none first))

  -- and behind it that of the destination
  module _ (s2 : copier.Seen) (v : Option (List wire.Call)) (k1 : s1 ≡ with_held s0 s1) (k2 : s2 ≡ with_held s1 s2) (one : Goes s1.board s1.held u s2.board s2.held v) where
    pub destination_dialed : (c : Option (List wire.Call)) → DrivesOneMore s2.to false s2.board s2.held v c → Told t c (AreDrivenTo (is_source one_each) s0.options.extents s0.options.destination_is_zero true s0.from s0.to)
    destination_dialed c second =
        let stand = first.stand (no_handles s0 none) in
        let one_held : length s2.held ≡ 1 = one.many stand ∙ first.many ∙ ap (λ (n : ℕ). n + 1) (none_held s0 none) in
        let there : s2.to ≡ s0.to = ap (λ (s : copier.Seen). s.to) k2 ∙ ap (λ (s : copier.Seen). s.to) k1 in
        second.on way t (to_second s0 (wished_how s0) one_each (length s2.held) one_held ∙ sym there) (λ empty. absurd (one_some (length s2.held) one_held empty)) (λ asks. not_asked asks) refl
        (one.on false way t stand (subst (λ (b : board.Seen). Told t u (λ calls. IsOn way b calls s1.held)) (sym same) (first_on s0 s1.held t u (wished_how s0) one_each none first)))

    pub destination_settled : (s3 : copier.Seen) (w c : Option (List wire.Call)) → s3.board ≡ s2.board → Dials s2.to false s2.board s2.held v s3.held w → DrivesOn s3.board s3.held w c → Told t c (AreDrivenTo (is_source one_each) s0.options.extents s0.options.destination_is_zero true s0.from s0.to)
    destination_settled s3 w c b3 second drives =
        let both = second_on s0 s2.board s1.held s2.held s3.held t u v w (wished_how s0) one_each none first (goes_first s0 s1 s2 u v same one) (dials_second s0 s1 s2 s3 v w k1 k2 second) in
        drives.on false way t both.0 (subst (λ (b : board.Seen). Told t w (λ calls. IsOn way b calls s3.held)) (sym b3) both.1)

-- Further connections.

module _ (copy : copier.Seen) (sides : Sides) (first : ℕ) where
  pub further_drives : (now : board.Seen) (held : List (Held Ticket)) (a b : Option (List wire.Call)) → GoesFurther copy sides first copy.board copy.held a now held b → DrivesFurther copy sides first a b
  further_drives now held a b further = record {
    on = λ size how start stand count is. told_as start b (λ calls on. on_driven false (beginning copy size how sides) now calls held on) (further.on size how start stand count is);
  }

  -- while they negotiate
  pub further_settled : (now : board.Seen) (held : List (Held Ticket)) (a b c : Option (List wire.Call)) → GoesFurther copy sides first copy.board copy.held a now held b → DrivesOn now held b c → DrivesFurther copy sides first a c
  further_settled now held a b c further drives = record {
    on = λ size how start stand count is. drives.on false (beginning copy size how sides) start (further.stand stand) (further.on size how start stand count is);
  }

  further_one : (place : Place) (now : board.Seen) (held : List (Held Ticket)) (a b c : Option (List wire.Call)) → GoesFurther copy sides first copy.board copy.held a now held b → DrivesOneMore place false now held b c →
      (length copy.held ≡ first → length held ≢ 0) → (length copy.held ≡ first → (size : Option ℕ) (how : How) → opening.place_of (beginning copy size how sides) (length held) ≡ place) → DrivesFurther copy sides first a c
  further_one place now held a b c further one some there = record {
    on = λ size how start stand count is. one.on (beginning copy size how sides) start (there count size how) (λ empty. absurd (some count empty)) (λ asks. not_asked asks) refl (further.on size how start stand count is);
  }

  module _ (mid : copier.Seen) (a b : Option (List wire.Call)) (kept : mid ≡ with_held copy mid) (further : GoesFurther copy sides first copy.board copy.held a mid.board mid.held b) where
    pub source_further : (c : Option (List wire.Call)) → DrivesOneMore mid.from false mid.board mid.held b c → (length copy.held ≡ first → length mid.held ≢ 0) → (length copy.held ≡ first → is_source sides (length mid.held) ≡ true) → DrivesFurther copy sides first a c
    source_further c one some side = further_one mid.from mid.board mid.held a b c further one some (λ count size how. source_place copy size how sides (length mid.held) (side count) ∙ sym (ap (λ (s : copier.Seen). s.from) kept))

    pub destination_further : (c : Option (List wire.Call)) → DrivesOneMore mid.to false mid.board mid.held b c → (length copy.held ≡ first → length mid.held ≢ 0) → (length copy.held ≡ first → is_source sides (length mid.held) ≡ false) → DrivesFurther copy sides first a c
    destination_further c one some side = further_one mid.to mid.board mid.held a b c further one some (λ count size how. destination_place copy size how sides (length mid.held) (side count) ∙ sym (ap (λ (s : copier.Seen). s.to) kept))

    -- and behind these others
    pub further_behind : (second : ℕ) (c : Option (List wire.Call)) → DrivesFurther mid sides second b c → (length copy.held ≡ first → length mid.held ≡ second) → DrivesFurther copy sides first a c
    further_behind second c drives many =
        let same : DrivesFurther (with_held copy mid) sides second b c = subst (λ (s : copier.Seen). DrivesFurther s sides second b c) kept drives in
        record { on = λ size how start stand count is. same.on size how start (further.stand stand) (many count) (further.on size how start stand count is) }

pub further_driven : (copy : copier.Seen) (sides : Sides) (start a c : Option (List wire.Call)) → DrivesFurther copy sides 2 a c → (terms : Terms) → HasMet copy start a terms → sides ≡ terms.sides → length copy.held ≡ 2 → Told start c (AreDrivenTo (is_source sides) copy.options.extents copy.options.destination_is_zero true copy.from copy.to)
further_driven copy sides start a c drives terms met same two =
    subst (λ (b : Bool). Told start c (AreDrivenTo (is_source sides) copy.options.extents b true copy.from copy.to)) met.wished.skip
    (drives.on (Some terms.size) terms.how start met.stand two (subst (λ (x : Sides). Told start a (λ calls. IsOn (beginning copy (Some terms.size) terms.how x) copy.board calls copy.held)) (sym same) met.on))
