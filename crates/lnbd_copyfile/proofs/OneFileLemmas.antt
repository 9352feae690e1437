-- Calls on one file, one behind another.
use Rattle.std.proofs.Common.{ℕ, List, [], ◌∷◌, ◌++◌, ap, sym, ◌∙◌, append_assoc}
use Rattle.lnbd_store.specs.Call.{Call, Ended, ReadAt, ReadFault, WriteAt, WriteFault}
use Rattle.lnbd_copyfile.specs.declared.fault.Stop.{Stop}
use Rattle.lnbd_copyfile.specs.OneFile.{BreaksReading, BreaksWriting, IsReadFrom, IsWriteTo, Read_breaks, Read_falls_short, Read_lacks_memory, Reads, Write_breaks, Write_lacks_memory, Writes}

module _ (file : ℕ) where
  pub writes_on : (calls more : List Call) → Writes file calls → Writes file more → Writes file (calls ++ more)
  writes_on [] more f g = g
  writes_on (call ∷ calls) more f g = (f.0, writes_on calls more f.1 g)

  pub writes_last : (call : Call) (calls : List Call) → IsWriteTo file call → Writes file calls → Writes file (calls ++ call ∷ [])
  writes_last call calls is f = writes_on calls (call ∷ []) f (is, tt)

  pub reads_last : (call : Call) (calls : List Call) → IsReadFrom file call → Reads file calls → Reads file (calls ++ call ∷ [])
  reads_last call [] is f = (is, tt)
  reads_last call (first ∷ calls) is f = (f.0, reads_last call calls is f.1)

  -- it broke behind earlier writes
  pub breaks_writing_behind : (why : Stop) (calls more : List Call) → Writes file calls → BreaksWriting file why more → BreaksWriting file why (calls ++ more)
  breaks_writing_behind why calls more f (Write_lacks_memory g e) = Write_lacks_memory (writes_on calls more f g) e
  breaks_writing_behind why calls more f (Write_breaks own offset offered g are e) =
      Write_breaks (calls ++ own) offset offered (writes_on calls own f g)
      (ap (λ (xs : List Call). calls ++ xs) are ∙ sym (append_assoc calls own (WriteAt file offset offered WriteFault ∷ []))) e

  pub reads_on : (calls more : List Call) → Reads file calls → Reads file more → Reads file (calls ++ more)
  reads_on [] more f g = g
  reads_on (call ∷ calls) more f g = (f.0, reads_on calls more f.1 g)

  -- it broke behind earlier reads
  pub breaks_reading_behind : (size : ℕ) (why : Stop) (calls more : List Call) → Reads file calls → BreaksReading file size why more → BreaksReading file size why (calls ++ more)
  breaks_reading_behind size why calls more f (Read_lacks_memory g e) = Read_lacks_memory (reads_on calls more f g) e
  breaks_reading_behind size why calls more f (Read_breaks own offset room g are e) =
      Read_breaks (calls ++ own) offset room (reads_on calls own f g) (ap (λ (xs : List Call). calls ++ xs) are ∙ sym (append_assoc calls own (ReadAt file offset room ReadFault ∷ []))) e
  breaks_reading_behind size why calls more f (Read_falls_short own end room g low are e) =
      Read_falls_short (calls ++ own) end room (reads_on calls own f g) low (ap (λ (xs : List Call). calls ++ xs) are ∙ sym (append_assoc calls own (ReadAt file end room Ended ∷ []))) e
