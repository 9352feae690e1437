use Rattle.std.proofs.Common.{◌≡◌, ◌+◌, ◌≤◌, ℕ, length, take, drop}
use Rattle.lnbd_touched.specs.Grown.{Grew, RoseBy}
use Rattle.lnbd_touched.specs.Touches.{Touches}
use Rattle.lnbd_copyfile.specs.Calls.{Moves}
use Rattle.lnbd_copyfile.specs.Steps.{ArePieces, Fills, data_length}
use Rattle.lnbd_copyfile.proofs.writing.put_pieces.Given as goal

abbrev pub invariant-pieces : goal.invariant-pieces
invariant-pieces g l = record {
  at : l.at ≤ length l.bytes;
  written : l.written ≤ l.at;
  left : ArePieces (l.offset + l.at) (drop l.at l.bytes) (drop l.piece-index l.pieces);
  count : l.written + data_length (drop l.piece-index l.pieces) ≡ data_length l.pieces;
  fills : Touches l.file (Fills l.offset (take l.at l.bytes)) (g.S.Store.shelf l.fn.store) (g.S.Store.shelf l.store);
  moves : (cell size from : ℕ) → length l.bytes ≤ cell → Grew (g.S.Store.told l.fn.store) (g.S.Store.told l.store) (Moves cell size from l.file);
  later : g.S.Store.faults l.fn.store ≤ g.S.Store.faults l.store;
  given : g.S.Store.given l.store ≡ g.S.Store.given l.fn.store;
  taken : RoseBy l.written (g.S.Store.taken l.fn.store) (g.S.Store.taken l.store);
}
