-- What each request of a copy is asked with: its flags, and how many bytes' extents.
use Rattle.std.proofs.Common.{◌≡◌, ◌≢◌, ◌≤◌, inl, inr, true, List, sym, ◌∙◌}
use Rattle.std.proofs.lemmas.Bool.{false≢true}
use Rattle.lnbd_model.specs.declared.kind.Kind.{Kind}
use Rattle.lnbd_model.specs.declared.kind.Kind.TheVariants.{BlockStatus, Flush, Read, Write, Zero}
use Rattle.lnbd_history.specs.Commands.{Command}
use Rattle.lnbd_asked.specs.Link.{Nobody}
use Rattle.lnbd_plan.specs.declared.grid.Slice.{Slice}
use Rattle.lnbd_board.specs.declared.how.How.{How}
use Rattle.lnbd_board.specs.declared.ticket.Ticket.{Ticket}
use Rattle.lnbd_board.specs.declared.ticket.Ticket.TheVariants as ticket
use Rattle.lnbd_board.specs.Rows.{AsksOfSource, AsksOfDestination, IsChange, max_extents}
use Rattle.lnbd_course.specs.Asks.{IsPlain}

-- Kinds are no others.

no_status : (kind : Kind) → kind ≡ Read → kind ≡ BlockStatus → ⊥
no_status kind one other = let e = sym one ∙ other in absurd (cc e)

write_differs : (kind : Kind) → kind ≡ Write → kind ≡ Zero → ⊥
write_differs kind one other = let e = sym one ∙ other in absurd (cc e)

flush_differs : (kind : Kind) → kind ≡ Flush → kind ≡ Zero → ⊥
flush_differs kind one other = let e = sym one ∙ other in absurd (cc e)

-- What is asked of the source has no flags, and asks for the extents of few bytes.

pub plain_look : (slices : List Slice) (by : Ticket) (command : Command Nobody) → AsksOfSource slices by command → command.flags ≡ 0
plain_look slices (ticket.Slice n) command asks = asks.2
plain_look slices ticket.Extents command asks = asks.1
plain_look slices ticket.Flush command asks = absurd asks

pub few_extents : (slices : List Slice) (by : Ticket) (command : Command Nobody) → AsksOfSource slices by command → command.kind ≡ BlockStatus → command.length ≤ max_extents
few_extents slices (ticket.Slice n) command asks is = absurd (no_status command.kind asks.0 is)
few_extents slices ticket.Extents command asks is = asks.2
few_extents slices ticket.Flush command asks is = absurd asks

-- What is asked of the destination has none but those of WRITE_ZEROES, which is not asked where zeros are passed over.

plain_change : (how : How) (command : Command Nobody) → IsChange how command → IsPlain command
plain_change how command (inl is) other = is.1
plain_change how command (inr is) other = absurd (other is.0)

pub plain_store : (how : How) (slices : List Slice) (by : Ticket) (command : Command Nobody) → AsksOfDestination how slices by command → IsPlain command
plain_store how slices (ticket.Slice n) command asks other = plain_change how command asks.0 other
plain_store how slices ticket.Extents command asks other = absurd asks
plain_store how slices ticket.Flush command asks other = asks.1

no_change : (how : How) (command : Command Nobody) → how.skip ≡ true → IsChange how command → command.kind ≢ Zero
no_change how command skip (inl is) zeroes = write_differs command.kind is.0 zeroes
no_change how command skip (inr is) zeroes = false≢true (sym is.2 ∙ skip)

pub no_zeroes : (how : How) (slices : List Slice) (by : Ticket) (command : Command Nobody) → how.skip ≡ true → AsksOfDestination how slices by command → command.kind ≢ Zero
no_zeroes how slices (ticket.Slice n) command skip asks zeroes = no_change how command skip asks.0 zeroes
no_zeroes how slices ticket.Extents command skip asks zeroes = asks
no_zeroes how slices ticket.Flush command skip asks zeroes = flush_differs command.kind asks.0 zeroes
