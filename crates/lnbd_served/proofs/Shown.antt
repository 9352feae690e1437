-- What a front of each thing that a server says shows to a reader: nothing before its end, a fault, or at its end that thing.
use Rattle.std.proofs.Common.{◌≡◌, ℕ, zero, suc, ◌+◌, ◌-◌, ◌*◌, ◌/◌, ◌≤◌, Bool, true, false, List, [], ◌∷◌, ◌++◌, length, take, drop, Option, Some, None, refl, ap, sym, ◌∙◌, arith, inl, inr, length-append, append-nil}
use Rattle.std.specs.List.{flat_map}
use Rattle.std.proofs.lemmas.List.{take_all}
use Rattle.std.proofs.lemmas.Nat.{div-mul-add}
use Rattle.lnbd_model.specs.declared.breach.Breach.TheVariants.{BadChunkLength, BadChunkType, TooManyErrors}
use Rattle.lnbd_stream.specs.Grammar.{wants}
use Rattle.lnbd_model.specs.declared.export.Extent.{Extent}
use Rattle.lnbd_records.specs.Content.{Content, Data, Status, Error, Nothing}
use Rattle.lnbd_records.specs.Handshake.{hello, option_reply_head, export_name_reply}
use Rattle.lnbd_records.specs.Numbers.{Field, number, row, AllFit, number_at, widths, total}
use Rattle.lnbd_records.specs.Replies.{body_of}
use Rattle.lnbd_records.specs.Told.{Body}
use Rattle.lnbd_records.specs.Transmission.{offset_data, error_head, descriptor, extended_descriptor, block_status, extended_block_status}
use Rattle.lnbd_records.proofs.NumberLaws.{then_reads, row-append, length-row}
use Rattle.lnbd_chunks.specs.declared.form.Form.{Form}
use Rattle.lnbd_chunks.specs.declared.form.Form.TheVariants as form
use Rattle.lnbd_chunks.specs.Chunk.{Waiting, Head, is_done, fits_length, fits_command, may_come, descriptors_in, extended_descriptors_in, shows_data, shows_status, shows_extended_status, shows_error, shows_chunk}
use Rattle.lnbd_chunks.proofs.Steady.{at_more}
use Rattle.lnbd_history.specs.Arrivals.{Shown, Hello, OptionReply, ExportReply, Reply, Broken, Passed, Ignored, Sight, reply, shows_hello, shows_option, shows_whole, shows_by_name}
use Rattle.lnbd_server.specs.Options.{put_reply}
use Rattle.lnbd_server.specs.Options as haggled
use Rattle.lnbd_served.proofs.Settling.{Good, good_as, good_once, good_wants, good_whole}

abbrev pub IsBroken : Shown → Type 0
IsBroken (Hello flags) = ⊥
IsBroken (OptionReply told) = ⊥
IsBroken (ExportReply size flags) = ⊥
IsBroken (Reply frame) = ⊥
IsBroken (Broken breach) = Unit {0}
IsBroken Passed = ⊥
IsBroken Ignored = ⊥

-- the number of a field
abbrev pub value : List Field → ℕ → ℕ
value [] i = 0
value (number w x ∷ fs) zero = x
value (number w x ∷ fs) (suc i) = value fs i

-- a number at the front of the bytes is that of all of them
pub front : (i w : ℕ) (now left all : List ℕ) → now ++ left ≡ all → i + w ≤ length now → number_at i w now ≡ number_at i w all
front i w now left all e h = sym (at_more i w now left h) ∙ ap (number_at i w) e

-- a front with nothing left is all
pub whole : (now left all : List ℕ) → now ++ left ≡ all → left ≡ [] → now ≡ all
whole now left all e none = sym (append-nil now) ∙ ap (λ (x : List ℕ). now ++ x) (sym none) ∙ e

pub sum_of : (now left all : List ℕ) → now ++ left ≡ all → length now + length left ≡ length all
sum_of now left all e = sym (length-append now left) ∙ ap length e

-- The handshake.

pub good_hello : (now left : List ℕ) → now ++ left ≡ row (hello 3) → Good IsBroken (λ found. found ≡ Hello 3) left (shows_hello now)
unfolding shows_hello number_at
good_hello now left e =
    let r = then_reads (hello 3) [] (row (hello 3)) (record { fit = (omega arith, (omega arith, (omega arith, tt))); spelled = sym (append-nil (row (hello 3))) }) in
    let flags : number_at 16 2 (row (hello 3)) ≡ 3 = ap (λ fs. value fs 2) r.fields in
    let n : length now + length left ≡ 18 = sum_of now left _ e ∙ r.size in
    good_once IsBroken _ 8 now left _ (omega (arith, n, length-append now left)) (λ a. good_wants IsBroken _ left _ _ _ tt (λ magic.
    good_once IsBroken _ 16 now left _ (omega (arith, n, length-append now left)) (λ b. good_wants IsBroken _ left _ _ _ tt (λ old. good_wants IsBroken _ left _ _ _ tt (λ second.
    good_whole IsBroken _ 18 now left _ (omega (arith, n, length-append now left)) (λ none. good_wants IsBroken _ [] _ _ _ tt (λ fixed.
    inr (refl, ap Hello (ap (number_at 16 2) (whole now left _ e none) ∙ flags)))))))))

-- a whole reply to an option, whose body fits
abbrev pub IsReply : haggled.Reply → Shown → Type 0
IsReply reply found = (body : Body) × (body_of reply.type reply.body ≡ Some body) × (found ≡ OptionReply body.told)

good_body : (sight : Sight) (option : ℕ) (reply : haggled.Reply) (v : Option Body) → body_of reply.type reply.body ≡ v → Good IsBroken (IsReply reply) [] (shows_whole sight option reply.type v)
good_body sight option reply None e = inl tt
good_body sight option reply (Some body) e =
    good_wants IsBroken (IsReply reply) [] _ _ _ tt (λ few. good_wants IsBroken (IsReply reply) [] _ _ _ tt (λ texts. good_wants IsBroken (IsReply reply) [] _ _ _ tt (λ info. good_wants IsBroken (IsReply reply) [] _ _ _ tt (λ small.
    inr (refl, (body, e, refl))))))

pub good_option : (sight : Sight) (option : ℕ) (reply : haggled.Reply) (now left : List ℕ) → AllFit (option_reply_head option reply.type (length reply.body)) → now ++ left ≡ put_reply option reply →
    Good IsBroken (IsReply reply) left (shows_option sight now)
unfolding shows_option number_at
good_option sight option reply now left fit e =
    let all : List ℕ = put_reply option reply in
    let r = then_reads (option_reply_head option reply.type (length reply.body)) reply.body (put_reply option reply) (record { fit = fit; spelled = refl }) in
    let type : number_at 12 4 (put_reply option reply) ≡ reply.type = ap (λ fs. value fs 2) r.fields in
    let size : number_at 16 4 (put_reply option reply) ≡ length reply.body = ap (λ fs. value fs 3) r.fields in
    let n : length now + length left ≡ 20 + length reply.body = sum_of now left _ e ∙ r.size in
    good_once IsBroken (IsReply reply) 8 now left _ (omega (arith, n, length-append now left)) (λ a. good_wants IsBroken (IsReply reply) left _ _ _ tt (λ magic.
    good_once IsBroken (IsReply reply) 20 now left _ (omega (arith, n, length-append now left)) (λ b. good_wants IsBroken (IsReply reply) left _ _ _ tt (λ asked. good_wants IsBroken (IsReply reply) left _ _ _ tt (λ short. good_wants IsBroken (IsReply reply) left _ _ _ tt (λ named.
    let size_now : number_at 16 4 now ≡ length reply.body = front 16 4 now left _ e b ∙ size in
    good_whole IsBroken (IsReply reply) (20 + number_at 16 4 now) now left _ (omega (arith, n, size_now, length-append now left)) (λ none.
    let is : now ≡ put_reply option reply = whole now left _ e none in
    let type_now : number_at 12 4 now ≡ reply.type = ap (number_at 12 4) is ∙ type in
    let body_now : take (number_at 16 4 now) (drop 20 now) ≡ reply.body = ap (λ k. take k (drop 20 now)) size_now ∙ ap (λ x. take (length reply.body) (drop 20 x)) is ∙ ap (take (length reply.body)) r.behind ∙ take_all (length reply.body) reply.body (omega arith) in
    good_as IsBroken (IsReply reply) [] _ _
    (ap (λ k. shows_whole sight (number_at 8 4 now) k (body_of k (take (number_at 16 4 now) (drop 20 now)))) type_now ∙ ap (λ x. shows_whole sight (number_at 8 4 now) reply.type (body_of reply.type x)) body_now)
    (good_body sight (number_at 8 4 now) reply (body_of reply.type reply.body) refl))))))))

pub good_named : (size flags : ℕ) (now left : List ℕ) → AllFit (export_name_reply size flags) → now ++ left ≡ row (export_name_reply size flags) → Good IsBroken (λ found. found ≡ ExportReply size flags) left (shows_by_name true now)
unfolding shows_by_name number_at
good_named size flags now left fit e =
    let r = then_reads (export_name_reply size flags) [] (row (export_name_reply size flags)) (record { fit = fit; spelled = sym (append-nil (row (export_name_reply size flags))) }) in
    let one : number_at 0 8 (row (export_name_reply size flags)) ≡ size = ap (λ fs. value fs 0) r.fields in
    let two : number_at 8 2 (row (export_name_reply size flags)) ≡ flags = ap (λ fs. value fs 1) r.fields in
    let n : length now + length left ≡ 10 = sum_of now left _ e ∙ r.size in
    good_whole IsBroken _ 10 now left _ (omega (arith, n, length-append now left)) (λ none. good_wants IsBroken _ [] _ _ _ tt (λ small.
    let is : now ≡ row (export_name_reply size flags) = whole now left _ e none in
    inr (refl, ap (λ k. ExportReply k (number_at 8 2 now)) (ap (number_at 0 8) is ∙ one) ∙ ap (ExportReply size) (ap (number_at 8 2) is ∙ two))))

-- Payloads of chunks.

abbrev extent : ℕ → ℕ → Extent
extent n flags = record { length = n; flags = flags }

read_descriptors : (ds : List Extent) → AllFit (flat_map (λ (d : Extent). descriptor d.length d.flags) ds) → descriptors_in (length ds) (row (flat_map (λ (d : Extent). descriptor d.length d.flags) ds)) ≡ ds
unfolding number_at
read_descriptors [] fit = refl
read_descriptors (d ∷ ds) fit =
    let bytes : List ℕ = row (descriptor d.length d.flags ++ flat_map (λ (x : Extent). descriptor x.length x.flags) ds) in
    let r = then_reads (descriptor d.length d.flags) (row (flat_map (λ (x : Extent). descriptor x.length x.flags) ds)) (row (descriptor d.length d.flags ++ flat_map (λ (x : Extent). descriptor x.length x.flags) ds))
    (record { fit = (fit.0, (fit.1.0, tt)); spelled = row-append (descriptor d.length d.flags) (flat_map (λ (x : Extent). descriptor x.length x.flags) ds) }) in
    let one : number_at 0 4 (row (descriptor d.length d.flags ++ flat_map (λ (x : Extent). descriptor x.length x.flags) ds)) ≡ d.length = ap (λ fs. value fs 0) r.fields in
    let two : number_at 4 4 (row (descriptor d.length d.flags ++ flat_map (λ (x : Extent). descriptor x.length x.flags) ds)) ≡ d.flags = ap (λ fs. value fs 1) r.fields in
    let rest = ap (descriptors_in (length ds)) r.behind ∙ read_descriptors ds fit.1.1 in
    ap (λ x. extent x (number_at 4 4 bytes) ∷ descriptors_in (length ds) (drop 8 bytes)) one ∙ ap (λ x. extent d.length x ∷ descriptors_in (length ds) (drop 8 bytes)) two ∙ ap (λ xs. extent d.length d.flags ∷ xs) rest

read_extended : (ds : List Extent) → AllFit (flat_map (λ (d : Extent). extended_descriptor d.length d.flags) ds) → extended_descriptors_in (length ds) (row (flat_map (λ (d : Extent). extended_descriptor d.length d.flags) ds)) ≡ ds
unfolding number_at
read_extended [] fit = refl
read_extended (d ∷ ds) fit =
    let bytes : List ℕ = row (extended_descriptor d.length d.flags ++ flat_map (λ (x : Extent). extended_descriptor x.length x.flags) ds) in
    let r = then_reads (extended_descriptor d.length d.flags) (row (flat_map (λ (x : Extent). extended_descriptor x.length x.flags) ds)) (row (extended_descriptor d.length d.flags ++ flat_map (λ (x : Extent). extended_descriptor x.length x.flags) ds))
    (record { fit = (fit.0, (fit.1.0, tt)); spelled = row-append (extended_descriptor d.length d.flags) (flat_map (λ (x : Extent). extended_descriptor x.length x.flags) ds) }) in
    let one : number_at 0 8 (row (extended_descriptor d.length d.flags ++ flat_map (λ (x : Extent). extended_descriptor x.length x.flags) ds)) ≡ d.length = ap (λ fs. value fs 0) r.fields in
    let two : number_at 8 8 (row (extended_descriptor d.length d.flags ++ flat_map (λ (x : Extent). extended_descriptor x.length x.flags) ds)) ≡ d.flags = ap (λ fs. value fs 1) r.fields in
    let rest = ap (extended_descriptors_in (length ds)) r.behind ∙ read_extended ds fit.1.1 in
    ap (λ x. extent x (number_at 8 8 bytes) ∷ extended_descriptors_in (length ds) (drop 16 bytes)) one ∙ ap (λ x. extent d.length x ∷ extended_descriptors_in (length ds) (drop 16 bytes)) two ∙ ap (λ xs. extent d.length d.flags ∷ xs) rest

pub count_fields : (ds : List Extent) → total (widths (flat_map (λ (d : Extent). descriptor d.length d.flags) ds)) ≡ 8 * length ds
count_fields [] = refl
count_fields (d ∷ ds) = let n = count_fields ds in omega (arith, n)

pub count_extended : (ds : List Extent) → total (widths (flat_map (λ (d : Extent). extended_descriptor d.length d.flags) ds)) ≡ 16 * length ds
count_extended [] = refl
count_extended (d ∷ ds) = let n = count_extended ds in omega (arith, n)

-- what a chunk of a server says, and the content that it tells
pub record Says : Type 0 where
  pub type : ℕ
  pub payload : List ℕ
  pub content : Content

abbrev pub nothing_said : Says
nothing_said = record { type = 0; payload = []; content = Nothing }

abbrev pub data_said : (offset : ℕ) → List ℕ → Says
data_said offset bytes = record { type = 1; payload = row (offset_data offset) ++ bytes; content = Data offset bytes }

abbrev pub error_said : ℕ → Says
error_said error = record { type = 32769; payload = row (error_head error 0); content = Error error }

abbrev pub status_said : List Extent → Says
status_said ds = record { type = 5; payload = row (block_status 1 ds); content = Status 1 ds }

abbrev pub extended_said : List Extent → Says
extended_said ds = record { type = 6; payload = row (extended_block_status 1 ds); content = Status 1 ds }

-- the numbers of a chunk's payload fit theirs, where extended headers are on or not
pub data IsSaid : (extended : Bool) → Says → Type 0 where
  Says_nothing : (extended : Bool) → IsSaid extended nothing_said
  Says_data : (extended : Bool) (offset : ℕ) (bytes : List ℕ) → AllFit (offset_data offset) → IsSaid extended (data_said offset bytes)
  Says_error : (extended : Bool) (error : ℕ) → AllFit (error_head error 0) → IsSaid extended (error_said error)
  Says_status : (ds : List Extent) → AllFit (block_status 1 ds) → IsSaid false (status_said ds)
  Says_extended : (ds : List Extent) → AllFit (extended_block_status 1 ds) → IsSaid true (extended_said ds)

module _ (tell : Content → Shown) where
  abbrev Tells : Content → Shown → Type 0
  Tells content found = found ≡ tell content

  good_data : (waiting : Waiting) (offset : ℕ) (bytes p left : List ℕ) → AllFit (offset_data offset) → p ++ left ≡ row (offset_data offset) ++ bytes → Good IsBroken (Tells (Data offset bytes)) left (shows_data Broken tell waiting (8 + length bytes) p)
  unfolding shows_data number_at
  good_data waiting offset bytes p left fit e =
      let r = then_reads (offset_data offset) bytes (row (offset_data offset) ++ bytes) (record { fit = fit; spelled = refl }) in
      let one : number_at 0 8 (row (offset_data offset) ++ bytes) ≡ offset = ap (λ fs. value fs 0) r.fields in
      let n : length p + length left ≡ 8 + length bytes = sum_of p left _ e ∙ r.size in
      let less : (8 + length bytes) - 8 ≡ length bytes = omega arith in
      good_once IsBroken (Tells (Data offset bytes)) 8 p left _ (omega (arith, n, length-append p left)) (λ a. good_wants IsBroken (Tells (Data offset bytes)) left _ _ _ tt (λ within.
      good_whole IsBroken (Tells (Data offset bytes)) (8 + length bytes) p left _ (omega (arith, n, length-append p left)) (λ none.
      let is : p ≡ row (offset_data offset) ++ bytes = whole p left _ e none in
      good_as IsBroken (Tells (Data offset bytes)) [] _ (Some (tell (Data offset bytes)))
      (ap (λ k. Some (tell (Data k (take ((8 + length bytes) - 8) (drop 8 p))))) (ap (number_at 0 8) is ∙ one)
      ∙ ap (λ k. Some (tell (Data offset (take k (drop 8 p))))) less ∙ ap (λ x. Some (tell (Data offset (take (length bytes) (drop 8 x))))) is ∙ ap (λ x. Some (tell (Data offset (take (length bytes) x)))) r.behind
      ∙ ap (λ x. Some (tell (Data offset x))) (take_all (length bytes) bytes (omega arith)))
      (inr (refl, refl)))))

  good_error : (error : ℕ) (p left : List ℕ) → AllFit (error_head error 0) → p ++ left ≡ row (error_head error 0) → Good IsBroken (Tells (Error error)) left (shows_error Broken tell form.Error 6 p)
  unfolding shows_error number_at
  good_error error p left fit e =
      let r = then_reads (error_head error 0) [] (row (error_head error 0)) (record { fit = fit; spelled = sym (append-nil (row (error_head error 0))) }) in
      let one : number_at 0 4 (row (error_head error 0)) ≡ error = ap (λ fs. value fs 0) r.fields in
      let n : length p + length left ≡ 6 = sum_of p left _ e ∙ r.size in
      good_once IsBroken (Tells (Error error)) 6 p left _ (omega (arith, n, length-append p left)) (λ a. good_wants IsBroken (Tells (Error error)) left _ _ _ tt (λ message. good_wants IsBroken (Tells (Error error)) left _ _ _ tt (λ some.
      good_whole IsBroken (Tells (Error error)) 6 p left _ (omega (arith, n, length-append p left)) (λ none.
      good_as IsBroken (Tells (Error error)) [] _ (Some (tell (Error error))) (ap (λ k. Some (tell (Error k))) (ap (number_at 0 4) (whole p left _ e none) ∙ one)) (inr (refl, refl))))))

  good_status : (ds : List Extent) (p left : List ℕ) → AllFit (block_status 1 ds) → p ++ left ≡ row (block_status 1 ds) → Good IsBroken (Tells (Status 1 ds)) left (shows_status Broken tell (length (row (block_status 1 ds))) p)
  unfolding shows_status number_at
  good_status ds p left fit e =
      let fs : List Field = flat_map (λ (d : Extent). descriptor d.length d.flags) ds in
      let r = then_reads (number 4 1 ∷ []) (row (flat_map (λ (d : Extent). descriptor d.length d.flags) ds)) (row (block_status 1 ds)) (record { fit = (fit.0, tt); spelled = row-append (number 4 1 ∷ []) (flat_map (λ (d : Extent). descriptor d.length d.flags) ds) }) in
      let one : number_at 0 4 (row (block_status 1 ds)) ≡ 1 = ap (λ gs. value gs 0) r.fields in
      let n : length p + length left ≡ length (row (block_status 1 ds)) = sum_of p left _ e in
      let size : length (row (block_status 1 ds)) ≡ 4 + 8 * length ds = r.size ∙ ap (λ k. 4 + k) (length-row (flat_map (λ (d : Extent). descriptor d.length d.flags) ds) ∙ count_fields ds) in
      let less : length (row (block_status 1 ds)) - 4 ≡ length ds * 8 + 0 = omega (arith, size) in
      let count : (length (row (block_status 1 ds)) - 4) / 8 ≡ length ds = ap (λ k. k / 8) less ∙ div-mul-add (length ds) 8 0 (omega arith) in
      good_whole IsBroken (Tells (Status 1 ds)) (length (row (block_status 1 ds))) p left _ (omega (arith, n, length-append p left)) (λ none.
      let is : p ≡ row (block_status 1 ds) = whole p left _ e none in
      good_as IsBroken (Tells (Status 1 ds)) [] _ (Some (tell (Status 1 ds)))
      (ap (λ k. Some (tell (Status k (descriptors_in ((length (row (block_status 1 ds)) - 4) / 8) (drop 4 p))))) (ap (number_at 0 4) is ∙ one)
      ∙ ap (λ k. Some (tell (Status 1 (descriptors_in k (drop 4 p))))) count ∙ ap (λ x. Some (tell (Status 1 (descriptors_in (length ds) (drop 4 x))))) is
      ∙ ap (λ x. Some (tell (Status 1 (descriptors_in (length ds) x)))) r.behind ∙ ap (λ x. Some (tell (Status 1 x))) (read_descriptors ds fit.1))
      (inr (refl, refl)))

  good_extended : (ds : List Extent) (p left : List ℕ) → AllFit (extended_block_status 1 ds) → p ++ left ≡ row (extended_block_status 1 ds) → Good IsBroken (Tells (Status 1 ds)) left (shows_extended_status Broken tell (length (row (extended_block_status 1 ds))) p)
  unfolding shows_extended_status number_at
  good_extended ds p left fit e =
      let r = then_reads (number 4 1 ∷ number 4 (length ds) ∷ []) (row (flat_map (λ (d : Extent). extended_descriptor d.length d.flags) ds)) (row (extended_block_status 1 ds))
      (record { fit = (fit.0, (fit.1.0, tt)); spelled = row-append (number 4 1 ∷ number 4 (length ds) ∷ []) (flat_map (λ (d : Extent). extended_descriptor d.length d.flags) ds) }) in
      let one : number_at 0 4 (row (extended_block_status 1 ds)) ≡ 1 = ap (λ gs. value gs 0) r.fields in
      let n : length p + length left ≡ length (row (extended_block_status 1 ds)) = sum_of p left _ e in
      let size : length (row (extended_block_status 1 ds)) ≡ 8 + 16 * length ds = r.size ∙ ap (λ k. 8 + k) (length-row (flat_map (λ (d : Extent). extended_descriptor d.length d.flags) ds) ∙ count_extended ds) in
      let less : length (row (extended_block_status 1 ds)) - 8 ≡ length ds * 16 + 0 = omega (arith, size) in
      let count : (length (row (extended_block_status 1 ds)) - 8) / 16 ≡ length ds = ap (λ k. k / 16) less ∙ div-mul-add (length ds) 16 0 (omega arith) in
      good_once IsBroken (Tells (Status 1 ds)) 8 p left _ (omega (arith, n, size, length-append p left)) (λ a. good_wants IsBroken (Tells (Status 1 ds)) left _ _ _ tt (λ counted.
      good_whole IsBroken (Tells (Status 1 ds)) (length (row (extended_block_status 1 ds))) p left _ (omega (arith, n, length-append p left)) (λ none.
      let is : p ≡ row (extended_block_status 1 ds) = whole p left _ e none in
      good_as IsBroken (Tells (Status 1 ds)) [] _ (Some (tell (Status 1 ds)))
      (ap (λ k. Some (tell (Status k (extended_descriptors_in ((length (row (extended_block_status 1 ds)) - 8) / 16) (drop 8 p))))) (ap (number_at 0 4) is ∙ one)
      ∙ ap (λ k. Some (tell (Status 1 (extended_descriptors_in k (drop 8 p))))) count ∙ ap (λ x. Some (tell (Status 1 (extended_descriptors_in (length ds) (drop 8 x))))) is
      ∙ ap (λ x. Some (tell (Status 1 (extended_descriptors_in (length ds) x)))) r.behind ∙ ap (λ x. Some (tell (Status 1 x))) (read_extended ds fit.1.1))
      (inr (refl, refl)))))

  nothing_left : (p left : List ℕ) → p ++ left ≡ [] → left ≡ []
  nothing_left [] left e = e
  nothing_left (x ∷ p) left e = cc

  -- the three tests of a chunk's head
  judged : (left : List ℕ) (f : Form) (waiting : Waiting) (head : Head) (content : Content) (shown : Option Shown) → Good IsBroken (Tells content) left shown →
      Good IsBroken (Tells content) left (wants (fits_length f head.length) (Broken BadChunkLength) (wants (fits_command f (is_done head) waiting.kind) (Broken BadChunkType) (wants (may_come waiting.faults f (is_done head)) (Broken TooManyErrors) shown)))
  judged left f waiting head content shown g = good_wants IsBroken (Tells content) left _ _ _ tt (λ long. good_wants IsBroken (Tells content) left _ _ _ tt (λ fits. good_wants IsBroken (Tells content) left _ _ _ tt (λ few. g)))

  abbrev head_of : ℕ → Says → Head
  head_of flags said = record { flags = flags; type = said.type; length = length said.payload }

  pub good_form : (extended : Bool) (said : Says) (waiting : Waiting) (flags : ℕ) (p left : List ℕ) → IsSaid extended said → p ++ left ≡ said.payload →
      Good IsBroken (Tells said.content) left (shows_chunk Broken tell extended waiting (record { flags = flags; type = said.type; length = length said.payload }) p)
  unfolding shows_chunk
  good_form _ _ waiting flags p left (Says_nothing extended) e = judged left form.Empty waiting (head_of flags nothing_said) Nothing (Some (tell Nothing)) (inr (nothing_left p left e, refl))
  good_form _ _ waiting flags p left (Says_data extended offset bytes fit) e =
      let r = then_reads (offset_data offset) bytes (row (offset_data offset) ++ bytes) (record { fit = fit; spelled = refl }) in
      judged left form.Data waiting (head_of flags (data_said offset bytes)) (Data offset bytes) _ (good_as IsBroken (Tells (Data offset bytes)) left _ _ (ap (λ n. shows_data Broken tell waiting n p) r.size) (good_data waiting offset bytes p left fit e))
  good_form _ _ waiting flags p left (Says_error extended error fit) e =
      let r = then_reads (error_head error 0) [] (row (error_head error 0)) (record { fit = fit; spelled = sym (append-nil (row (error_head error 0))) }) in
      judged left form.Error waiting (head_of flags (error_said error)) (Error error) _ (good_as IsBroken (Tells (Error error)) left _ _ (ap (λ n. shows_error Broken tell form.Error n p) r.size) (good_error error p left fit e))
  good_form _ _ waiting flags p left (Says_status ds fit) e = judged left form.Status waiting (head_of flags (status_said ds)) (Status 1 ds) _ (good_status ds p left fit e)
  good_form _ _ waiting flags p left (Says_extended ds fit) e = judged left form.ExtendedStatus waiting (head_of flags (extended_said ds)) (Status 1 ds) _ (good_extended ds p left fit e)
