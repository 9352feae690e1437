-- What a server answers to an option: replies of which the last and no other ends the answer, and no size but the export's.
use Rattle.std.proofs.Common.{◌≡◌, ◌≢◌, ℕ, ◌+◌, ◌-◌, ◌^◌, ◌<◌, ◌≤◌, inl, inr, Bool, true, false, not, ◌&&◌, ◌||◌, List, [], ◌∷◌, ◌++◌, length, take, drop, map, Option, Some, None, ◌==◌, ◌*◌, bytes_eq, nat_le, refl, ap, sym, subst, ◌∙◌, arith, if◌then◌else◌, length-append, append-nil}
use Rattle.std.specs.List.{flat_map, list_any}
use Rattle.std.proofs.lemmas.Slice.Eq.{bytes_eq-Decides}
use Rattle.std.proofs.lemmas.Bool.{eq-eqb, eqb-true, ne_eqb}
use Rattle.lnbd_records.specs.Handshake.{export_name_reply}
use Rattle.lnbd_records.specs.Numbers.{number, row, number_at, counted}
use Rattle.lnbd_records.specs.Options.{opt_export_name, opt_abort, opt_list, opt_info, opt_go, opt_structured_reply, opt_set_meta_context, opt_extended_headers, rep_ack, rep_server, rep_info, rep_meta_context, first_rep_error, err_unsup, info_export, info_name, info_description, info_block_size}
use Rattle.lnbd_records.specs.Replies.{body_of, fits, server_body, info_body, info_of_type, context_body, blocks_told, are_blocks}
use Rattle.lnbd_records.specs.Replies.{export as haggled_export}
use Rattle.lnbd_records.specs.Requests.{Asked, asked_of, asks_texts}
use Rattle.lnbd_records.specs.Requests as asks
use Rattle.lnbd_records.specs.Told.{Told, Body}
use Rattle.lnbd_records.specs.Told as told
use Rattle.lnbd_records.proofs.NumberLaws.{then_reads, length-row}
use Rattle.lnbd_options.specs.Answers.{request_of}
use Rattle.lnbd_asked.specs.Client.{Wish}
use Rattle.lnbd_asked.specs.Transcript.{name_asked, name_in}
use Rattle.lnbd_export.specs.Export.{Export}
use Rattle.lnbd_export.specs.Export as held
use Rattle.lnbd_export.specs.Requests.{is_structured, is_extended}
use Rattle.lnbd_export.specs.declared.request.Agreed.{Agreed}
use Rattle.lnbd_export.specs.declared.request.Replies.{Replies}
use Rattle.lnbd_export.specs.declared.request.Replies.TheVariants.{Simple, Structured, Extended}
use Rattle.lnbd_server.specs.declared.stage.Offers.{Offers}
use Rattle.lnbd_server.specs.declared.stage.Stage.{Stage}
use Rattle.lnbd_server.specs.declared.stage.Stage.TheVariants.{Haggling, Serving, Ended, Strayed}
use Rattle.lnbd_server.specs.Session.{is_closed}
use Rattle.lnbd_served.specs.Grammars.{is_greeted}
use Rattle.lnbd_server.specs.Options.{Reply, put_reply, put_replies, acknowledged, refused, flags_of, blocks, size_told, blocks_told as blocks_reply, text_told, told_if, information, export_told, listing, allocation_told, allocation_name, has_allocation, contexts, lawful, Answer, going, name_answer, info_answer, meta_answer, switched, with_structured, stage_after, without_allocation, plain_answer, invalid_answer, answer_of, option_answer, err_unknown, err_invalid}
use Rattle.lnbd_served.specs.Served.{IsServable}
use Rattle.lnbd_served.proofs.Shown.{value}
use Rattle.lnbd_served.proofs.Linking.{of_fits}
use Rattle.lnbd_served.proofs.Items.{Said, Answers, Names, encode, FairTold, is_last, IsFair, AreReplies, acknowledges, ends_answer}
use Rattle.lnbd_served.proofs.Saying.{AnswersWish}

bytes_eq-true : (one other : List ℕ) → bytes_eq one other ≡ true → one ≡ other
bytes_eq-true one other e = (bytes_eq-Decides one other).0 e

-- No size is told but by the information that tells it.

fair_fits : (size : ℕ) (test : Bool) (one : Told) (body : Body) → FairTold size one → fits test one ≡ Some body → FairTold size body.told
fair_fits size test one body fair e = subst (λ (t : Told). FairTold size t) (sym (of_fits test one body e)) fair

fair_blocks : (size minimum preferred maximum : ℕ) → FairTold size (blocks_told minimum preferred maximum)
fair_blocks size minimum preferred maximum = go (are_blocks minimum preferred maximum)
  where
    go : (b : Bool) → FairTold size (if b then told.Blocks (record { minimum = minimum; preferred = preferred; maximum = maximum }) else told.Passed)
    go true = tt
    go false = tt

fair_info : (size type : ℕ) (bytes : List ℕ) (body : Body) → (type ≡ info_export → number_at 2 8 bytes ≡ size) → info_of_type type bytes ≡ Some body → FairTold size body.told
fair_info size type bytes body told_size e = go (type == info_export) refl (type == info_name) (type == info_description) (type == info_block_size) e
  where
    go : (a : Bool) → (type == info_export) ≡ a → (b c d : Bool) → (if a then fits (length bytes == 12) (told.Export (record { size = number_at 2 8 bytes; flags = number_at 10 2 bytes }))
        else if b then fits true (told.Name (drop 2 bytes)) else if c then fits true (told.Description (drop 2 bytes))
        else if d then fits (length bytes == 14) (blocks_told (number_at 2 4 bytes) (number_at 6 4 bytes) (number_at 10 4 bytes)) else fits true told.Passed) ≡ Some body → FairTold size body.told
    go true w b c d e = fair_fits size (length bytes == 12) (told.Export (record { size = number_at 2 8 bytes; flags = number_at 10 2 bytes })) body (told_size (eqb-true type info_export w)) e
    go false w true c d e = fair_fits size true (told.Name (drop 2 bytes)) body tt e
    go false w false true d e = fair_fits size true (told.Description (drop 2 bytes)) body tt e
    go false w false false true e = fair_fits size (length bytes == 14) (blocks_told (number_at 2 4 bytes) (number_at 6 4 bytes) (number_at 10 4 bytes)) body (fair_blocks size (number_at 2 4 bytes) (number_at 6 4 bytes) (number_at 10 4 bytes)) e
    go false w false false false e = fair_fits size true told.Passed body tt e

fair_body : (size type : ℕ) (bytes : List ℕ) (body : Body) → (type ≡ rep_info → number_at 0 2 bytes ≡ info_export → number_at 2 8 bytes ≡ size) → body_of type bytes ≡ Some body → FairTold size body.told
unfolding body_of
fair_body size type bytes body told_size e = go (nat_le first_rep_error type) (type == rep_ack) (type == rep_server) (type == rep_info) refl (type == rep_meta_context) e
  where
    info : (b : Bool) → type ≡ rep_info → (if b then info_of_type (number_at 0 2 bytes) bytes else None) ≡ Some body → FairTold size body.told
    info true is e = fair_info size (number_at 0 2 bytes) bytes body (told_size is) e
    info false is e = cc

    go : (a b c d : Bool) → (type == rep_info) ≡ d → (f : Bool) → (if a then fits true (told.Error (type - first_rep_error)) else if b then fits (length bytes == 0) told.Ack else if c then server_body bytes else if d then info_body bytes else if f then context_body bytes else None) ≡ Some body →
        FairTold size body.told
    go true b c d w f e = fair_fits size true (told.Error (type - first_rep_error)) body tt e
    go false true c d w f e = fair_fits size (length bytes == 0) told.Ack body tt e
    go false false true d w f e = fair_fits size (nat_le 4 (length bytes) && nat_le (4 + number_at 0 4 bytes) (length bytes)) (told.Server (record { name = take (number_at 0 4 bytes) (drop 4 bytes); description = drop (4 + number_at 0 4 bytes) bytes })) body tt e
    go false false false true w f e = info (nat_le 2 (length bytes)) (eqb-true type rep_info w) e
    go false false false false w true e = fair_fits size (nat_le 4 (length bytes)) (told.Context (record { id = number_at 0 4 bytes; name = drop 4 bytes })) body tt e
    go false false false false w false e = cc

module _ (export : Export) (servable : IsServable export) (option : ℕ) (small : option < 256 ^ 4) where
  -- a reply of another type than INFO
  plain_fair : (reply : Reply) → reply.type < 256 ^ 4 → length reply.body < 256 ^ 4 → (reply.type ≡ rep_info → ⊥) → IsFair (held.size export) option reply
  plain_fair reply type long other = record { fit = (omega arith, (small, (type, (long, tt)))); fair = λ body e. fair_body (held.size export) reply.type reply.body body (λ is. absurd (other is)) e }

  ack_fair : IsFair (held.size export) option acknowledged
  ack_fair = plain_fair acknowledged (omega arith) (omega arith) (λ is. absurd (omega (arith, is)))

  refused_fair : (code : ℕ) → code ≤ 1000 → IsFair (held.size export) option (refused code)
  refused_fair code few = plain_fair (refused code) (omega (arith, few)) (omega arith) (λ is. absurd (omega (arith, is)))

  flags_small : (replies : Replies) (b : Bool) → flags_of replies (record export { read_only = b }) < 256 ^ 2
  flags_small Simple true = omega arith
  flags_small Simple false = omega arith
  flags_small Structured true = omega arith
  flags_small Structured false = omega arith
  flags_small Extended true = omega arith
  flags_small Extended false = omega arith

  size_fair : (replies : Replies) → IsFair (held.size export) option (size_told (held.size export) (flags_of replies export))
  unfolding number_at
  size_fair replies =
      let f = flags_small replies export.read_only in
      let s = servable.size in
      let r = then_reads (haggled_export (record { size = held.size export; flags = flags_of replies export })) [] (row (haggled_export (record { size = held.size export; flags = flags_of replies export }))) (record { fit = (omega arith, (omega (arith, s), (f, tt))); spelled = sym (append-nil (row (haggled_export (record { size = held.size export; flags = flags_of replies export })))) }) in
      record { fit = (omega arith, (small, (omega arith, (omega (arith, r.size), tt)))); fair = λ body e. fair_body (held.size export) rep_info (row (haggled_export (record { size = held.size export; flags = flags_of replies export }))) body (λ is zero_. ap (λ fs. value fs 1) r.fields) e }

  text_fair : (type : ℕ) (text : List ℕ) → 1 ≤ type → type < 256 ^ 2 → length text ≤ 4096 → IsFair (held.size export) option (text_told type text)
  unfolding number_at
  text_fair type text some low short =
      let r = then_reads (number 2 type ∷ []) text (row (number 2 type ∷ []) ++ text) (record { fit = (low, tt); spelled = refl }) in
      let at : number_at 0 2 (row (number 2 type ∷ []) ++ text) ≡ type = ap (λ fs. value fs 0) r.fields in
      record { fit = (omega arith, (small, (omega arith, (omega (arith, r.size, short), tt)))); fair = λ body e. fair_body (held.size export) rep_info (row (number 2 type ∷ []) ++ text) body (λ is zero_. absurd (omega (arith, some, at, zero_))) e }

  blocks_fair : IsFair (held.size export) option blocks_reply
  unfolding number_at
  blocks_fair =
      let r = then_reads blocks [] (row blocks) (record { fit = (omega arith, (omega arith, (omega arith, (omega arith, tt)))); spelled = sym (append-nil (row blocks)) }) in
      let at : number_at 0 2 (row blocks) ≡ 3 = ap (λ fs. value fs 0) r.fields in
      record { fit = (omega arith, (small, (omega arith, (omega (arith, r.size), tt)))); fair = λ body e. fair_body (held.size export) rep_info (row blocks) body (λ is zero_. absurd (omega (arith, at, zero_))) e }

  server_fair : IsFair (held.size export) option (export_told export)
  server_fair =
      let a = servable.name in
      let b = servable.description in
      let n = length-append (counted export.name) export.description in
      let m = length-append (row (number 4 (length export.name) ∷ [])) export.name in
      let k = length-row (number 4 (length export.name) ∷ []) in
      plain_fair (export_told export) (omega arith) (omega (arith, a, b, n, m, k)) (λ is. absurd (omega (arith, is)))

  context_fair : IsFair (held.size export) option allocation_told
  context_fair =
      let n = length-append (row (number 4 1 ∷ [])) allocation_name in
      let m = length-row (number 4 1 ∷ []) in
      let k : length allocation_name ≡ 15 = refl in
      plain_fair allocation_told (omega arith) (omega (arith, n, m, k)) (λ is. absurd (omega (arith, is)))

  -- fair replies, of which only the last ends the answer
  abbrev AreRun : List Reply → Type 0
  AreRun [] = Unit {0}
  AreRun (reply ∷ more) = IsFair (held.size export) option reply × (is_last reply ≡ true → more ≡ []) × AreRun more

  abbrev items_of : List Reply → List Said
  items_of replies = map (Answers option) replies

  run_replies : (replies : List Reply) → AreRun replies → AreReplies (held.size export) option (items_of replies)
  run_replies [] run = tt
  run_replies (reply ∷ more) run = (refl, run.0, (λ last. ap items_of (run.1 last)), run_replies more run.2)

  run_spelled : (replies : List Reply) → flat_map encode (items_of replies) ≡ put_replies option replies
  run_spelled [] = refl
  run_spelled (reply ∷ more) = ap (λ (xs : List ℕ). put_reply option reply ++ xs) (run_spelled more)

  one_run : (reply : Reply) → IsFair (held.size export) option reply → AreRun (reply ∷ [])
  one_run reply fair = (fair, (λ last. refl), tt)

  then_run : (reply : Reply) (more : List Reply) → IsFair (held.size export) option reply → is_last reply ≡ false → AreRun more → AreRun (reply ∷ more)
  then_run reply more fair open_ run = (fair, (λ last. let bad : false ≡ true = sym open_ ∙ last in cc), run)

  -- fair replies of which none ends the answer
  abbrev AreOpen : List Reply → Type 0
  AreOpen [] = Unit {0}
  AreOpen (reply ∷ more) = IsFair (held.size export) option reply × (is_last reply ≡ false) × AreOpen more

  open_join : (one other : List Reply) → AreOpen one → AreOpen other → AreOpen (one ++ other)
  open_join [] other a b = b
  open_join (reply ∷ one) other a b = (a.0, a.1, open_join one other a.2 b)

  open_run : (one other : List Reply) → AreOpen one → AreRun other → AreRun (one ++ other)
  open_run [] other a run = run
  open_run (reply ∷ one) other a run = then_run reply (one ++ other) a.0 a.1 (open_run one other a.2 run)

  text_if : (b : Bool) (type : ℕ) (text : List ℕ) → 1 ≤ type → type < 256 ^ 2 → length text ≤ 4096 → AreOpen (told_if b type text)
  text_if true type text some low short = (text_fair type text some low short, refl, tt)
  text_if false type text some low short = tt

  last_two : AreRun (blocks_reply ∷ acknowledged ∷ [])
  last_two = then_run blocks_reply (acknowledged ∷ []) blocks_fair refl (one_run acknowledged ack_fair)

  information_run : (replies : Replies) (a b : Bool) → AreRun (information replies export a b)
  information_run replies a b =
      let one : List Reply = size_told (held.size export) (flags_of replies export) ∷ [] in
      let names : List Reply = told_if a info_name export.name in
      let texts : List Reply = told_if b info_description export.description in
      let first : AreOpen one = (size_fair replies, refl, tt) in
      let second : AreOpen names = text_if a info_name export.name (omega arith) (omega arith) servable.name in
      let third : AreOpen texts = text_if b info_description export.description (omega arith) (omega arith) servable.description in
      open_run one ((names ++ texts) ++ (blocks_reply ∷ acknowledged ∷ [])) first (open_run (names ++ texts) (blocks_reply ∷ acknowledged ∷ []) (open_join names texts second third) last_two)

  ends_behind : (one other : List Reply) → ends_answer (items_of other) ≡ true → ends_answer (items_of (one ++ other)) ≡ true
  ends_behind [] other e = e
  ends_behind (reply ∷ one) other e = or_it (is_last reply) (ends_answer (items_of (one ++ other))) (ends_behind one other e)
    where
      or_it : (a b : Bool) → b ≡ true → a || b ≡ true
      or_it true b e = refl
      or_it false b e = e

  information_ends : (replies : Replies) (a b : Bool) → ends_answer (items_of (information replies export a b)) ≡ true
  information_ends replies a b =
      ends_behind (size_told (held.size export) (flags_of replies export) ∷ []) ((told_if a info_name export.name ++ told_if b info_description export.description) ++ (blocks_reply ∷ acknowledged ∷ []))
      (ends_behind (told_if a info_name export.name ++ told_if b info_description export.description) (blocks_reply ∷ acknowledged ∷ []) refl)

  acks_behind : (one other : List Reply) → acknowledges (items_of other) ≡ true → acknowledges (items_of (one ++ other)) ≡ true
  acks_behind [] other e = e
  acks_behind (reply ∷ one) other e = or_it (reply.type == rep_ack) (acknowledges (items_of (one ++ other))) (acks_behind one other e)
    where
      or_it : (a b : Bool) → b ≡ true → a || b ≡ true
      or_it true b e = refl
      or_it false b e = e

  information_acks : (replies : Replies) (a b : Bool) → acknowledges (items_of (information replies export a b)) ≡ true
  information_acks replies a b =
      acks_behind (size_told (held.size export) (flags_of replies export) ∷ []) ((told_if a info_name export.name ++ told_if b info_description export.description) ++ (blocks_reply ∷ acknowledged ∷ []))
      (acks_behind (told_if a info_name export.name ++ told_if b info_description export.description) (blocks_reply ∷ acknowledged ∷ []) refl)

  and_true : (a : Bool) → a && true ≡ a
  and_true true = refl
  and_true false = refl

  contexts_ends : (b : Bool) → ends_answer (items_of (contexts b)) ≡ true
  contexts_ends true = refl
  contexts_ends false = refl

  contexts_run : (b : Bool) → AreRun (contexts b)
  contexts_run true = then_run allocation_told (acknowledged ∷ []) context_fair refl (one_run acknowledged ack_fair)
  contexts_run false = one_run acknowledged ack_fair

  module _ (body : List ℕ) (earlier : List Wish) where
    abbrev wish : Wish
    wish = record { option = option; body = body }

    -- where a session goes by an answer that acknowledges, or doesn't, and whether it then has extended headers
    abbrev staged : Bool → Stage
    staged acks = if (option == opt_go) && acks then Serving else Haggling

    abbrev switched_by : Bool → Bool → Bool
    switched_by acks was = ((option == opt_extended_headers) && acks) || was

    and_none : (a : Bool) → a && false ≡ false
    and_none true = refl
    and_none false = refl

    none_switched : (was : Bool) → switched_by false was ≡ was
    none_switched was = ap (λ (b : Bool). b || was) (and_none (option == opt_extended_headers))

    none_staged : staged false ≡ Haggling
    none_staged = ap (λ (b : Bool). if b then Serving else Haggling) (and_none (option == opt_go))

    -- an answer of a session that had extended headers before, or hadn't
    pub record Answered (was : Bool) (answer : Answer) : Type 0 where
      pub items : List Said
      pub spelled : answer.bytes ≡ flat_map encode items
      pub greets : is_greeted answer.stage ≡ true
      pub fits : AnswersWish export.name (held.size export) (record { option = option; body = body }) earlier items
      -- a session that goes on answers to the end
      pub ends : is_closed answer.stage ≡ false → (option == opt_export_name) ≡ false → ends_answer items ≡ true
      pub names : is_closed answer.stage ≡ false → (option == opt_export_name) ≡ true → items ≢ []
      pub serves : is_closed answer.stage ≡ false → (option == opt_export_name) ≡ true → answer.stage ≡ Serving
      pub stays : is_closed answer.stage ≡ false → (option == opt_export_name) ≡ false → answer.stage ≡ (if (option == opt_go) && acknowledges items then Serving else Haggling)
      pub switches : is_extended answer.agreed.replies ≡ (((option == opt_extended_headers) && acknowledges items) || was)

    by_replies : (was : Bool) (answer : Answer) (replies : List Reply) → is_greeted answer.stage ≡ true → answer.bytes ≡ put_replies option replies → AreRun replies → ends_answer (items_of replies) ≡ true → (is_closed answer.stage ≡ false → answer.stage ≡ staged (acknowledges (items_of replies))) →
        is_extended answer.agreed.replies ≡ switched_by (acknowledges (items_of replies)) was → (option == opt_export_name) ≡ false →
        (option ≡ opt_go → acknowledges (items_of replies) ≡ true → name_asked (record { option = option; body = body } ∷ earlier) ≡ Some export.name) → Answered was answer
    by_replies was answer replies g e run whole stage same other promise = record {
      items = items_of replies;
      spelled = e ∙ sym (run_spelled replies);
      greets = g;
      fits = ((λ named. let bad : true ≡ false = sym named ∙ other in cc), (λ o. (run_replies replies run, promise)));
      ends = λ goes o. whole;
      names = λ goes named. absurd (let bad : true ≡ false = sym named ∙ other in cc);
      serves = λ goes named. absurd (let bad : true ≡ false = sym named ∙ other in cc);
      stays = λ goes o. stage goes;
      switches = same;
    }

    refused_by : (was : Bool) (answer : Answer) (code : ℕ) → is_greeted answer.stage ≡ true → code ≤ 1000 → answer.bytes ≡ put_replies option (refused code ∷ []) → acknowledges (items_of (refused code ∷ [])) ≡ false → ends_answer (items_of (refused code ∷ [])) ≡ true → answer.stage ≡ Haggling → is_extended answer.agreed.replies ≡ was →
        (option == opt_export_name) ≡ false → Answered was answer
    refused_by was answer code g few e none whole stage same other = by_replies was answer (refused code ∷ []) g e (one_run (refused code) (refused_fair code few)) whole
        (λ goes. stage ∙ sym (ap staged none ∙ none_staged)) (same ∙ sym (ap (λ (b : Bool). switched_by b was) none ∙ none_switched was)) other (λ goes acks. let bad : false ≡ true = sym none ∙ acks in cc)

    silent_by : (was : Bool) (answer : Answer) → is_greeted answer.stage ≡ true → is_closed answer.stage ≡ true → answer.bytes ≡ [] → is_extended answer.agreed.replies ≡ was → (option == opt_export_name) ≡ true → Answered was answer
    silent_by was answer g closed e same named = record {
      items = [];
      spelled = e;
      greets = g;
      fits = ((λ n. inl refl), (λ other. let bad : true ≡ false = sym named ∙ other in cc));
      ends = λ goes other. let bad : true ≡ false = sym named ∙ other in cc;
      names = λ goes n. absurd (let bad : true ≡ false = sym closed ∙ goes in cc);
      serves = λ goes n. absurd (let bad : true ≡ false = sym closed ∙ goes in cc);
      stays = λ goes o. absurd (let bad : true ≡ false = sym closed ∙ goes in cc);
      switches = same ∙ sym (none_switched was);
    }

    after_greets : (b : Bool) → is_greeted (if b then Serving else Haggling) ≡ true
    after_greets true = refl
    after_greets false = refl

    kept_if : (agreed : Agreed) (b : Bool) → is_extended (if b then without_allocation agreed else agreed).replies ≡ is_extended agreed.replies
    kept_if agreed true = refl
    kept_if agreed false = refl

    invalid : (agreed : Agreed) → Answered (is_extended agreed.replies) (invalid_answer agreed option)
    invalid agreed = go (option == opt_export_name) refl
      where
        go : (b : Bool) → (option == opt_export_name) ≡ b → Answered (is_extended agreed.replies) (if b then record { bytes = []; agreed = agreed; stage = Strayed } else going option (refused err_invalid ∷ []) (if option == opt_set_meta_context then without_allocation agreed else agreed))
        go true e = silent_by (is_extended agreed.replies) (record { bytes = []; agreed = agreed; stage = Strayed }) refl refl refl refl e
        go false e = refused_by (is_extended agreed.replies) (going option (refused err_invalid ∷ []) (if option == opt_set_meta_context then without_allocation agreed else agreed)) err_invalid refl (omega arith) refl refl refl refl (kept_if agreed (option == opt_set_meta_context)) e

    -- what an option asks is its own kind
    abbrev IsKind : Asked → Bool → Type 0
    IsKind (asks.Name n) named = named ≡ true
    IsKind (asks.Info n types) named = named ≡ false
    IsKind (asks.Meta n queries) named = named ≡ false
    IsKind asks.Plain named = named ≡ false

    some_kind : (one other : Asked) (named : Bool) → IsKind one named → Some one ≡ Some other → IsKind other named
    some_kind one other named is e = let same : one ≡ other = cc in subst (λ (a : Asked). IsKind a named) same is

    kind_of : (a : Asked) → asked_of option body ≡ Some a → IsKind a (option == opt_export_name)
    unfolding asked_of
    kind_of a e = go (option == opt_export_name) (asks.is_info option) (option == opt_set_meta_context) (asks.has_no_data option && not (length body == 0)) e
      where
        infos : (t : Bool) → (if t then Some (asks.Info (take (number_at 0 4 body) (drop 4 body)) (asks.types_in (number_at (4 + number_at 0 4 body) 2 body) (drop (6 + number_at 0 4 body) body))) else None) ≡ Some a → IsKind a false
        infos true e = some_kind (asks.Info (take (number_at 0 4 body) (drop 4 body)) (asks.types_in (number_at (4 + number_at 0 4 body) 2 body) (drop (6 + number_at 0 4 body) body))) a false refl e
        infos false e = cc

        named_with : (n : List ℕ) (v : Option (List (List ℕ))) → asks.with_name n v ≡ Some a → IsKind a false
        named_with n None e = cc
        named_with n (Some queries) e = some_kind (asks.Meta n queries) a false refl e

        metas : (t : Bool) → (if t then asks.with_name (take (number_at 0 4 body) (drop 4 body)) (asks.texts_in (number_at (4 + number_at 0 4 body) 4 body) (drop (8 + number_at 0 4 body) body)) else None) ≡ Some a → IsKind a false
        metas true e = named_with (take (number_at 0 4 body) (drop 4 body)) (asks.texts_in (number_at (4 + number_at 0 4 body) 4 body) (drop (8 + number_at 0 4 body) body)) e
        metas false e = cc

        go : (b i m d : Bool) → (if b then Some (asks.Name body) else if i then asks.info_asked body else if m then asks.meta_asked body else if d then None else Some asks.Plain) ≡ Some a → IsKind a b
        go true i m d e = some_kind (asks.Name body) a true refl e
        go false true m d e = infos (nat_le 4 (length body) && nat_le (6 + number_at 0 4 body) (length body) && (length body == 6 + number_at 0 4 body + 2 * number_at (4 + number_at 0 4 body) 2 body)) e
        go false false true d e = metas (nat_le 4 (length body) && nat_le (8 + number_at 0 4 body) (length body)) e
        go false false false true e = cc
        go false false false false e = some_kind asks.Plain a false refl e

    or_true : (b : Bool) → (if b || true then name_in (asked_of option body) else name_asked earlier) ≡ name_in (asked_of option body)
    or_true true = refl
    or_true false = refl

    -- the name of EXPORT_NAME, and of GO
    named_by : (n : List ℕ) → (option == opt_export_name) ≡ true → asked_of option body ≡ Some (asks.Name n) → n ≡ export.name → name_asked (record { option = option; body = body } ∷ earlier) ≡ Some export.name
    named_by n by e same = ap (λ (b : Bool). if (option == opt_go) || b then name_in (asked_of option body) else name_asked earlier) by ∙ or_true (option == opt_go) ∙ ap name_in e ∙ ap (λ (x : List ℕ). Some x) same

    named_go : (n : List ℕ) (types : List ℕ) → option ≡ opt_go → asked_of option body ≡ Some (asks.Info n types) → n ≡ export.name → name_asked (record { option = option; body = body } ∷ earlier) ≡ Some export.name
    named_go n types goes e same = ap (λ (b : Bool). if b || (option == opt_export_name) then name_in (asked_of option body) else name_asked earlier) (eq-eqb option opt_go goes) ∙ ap name_in e ∙ ap (λ (x : List ℕ). Some x) same

    by_name : (agreed : Agreed) (n : List ℕ) → (option == opt_export_name) ≡ true → asked_of option body ≡ Some (asks.Name n) → Answered (is_extended agreed.replies) (name_answer export true agreed n)
    by_name agreed n by e = go (bytes_eq n export.name) refl
      where
        go : (b : Bool) → bytes_eq n export.name ≡ b →
            Answered (is_extended agreed.replies) (if b then record { bytes = row (export_name_reply (held.size export) (flags_of agreed.replies export)) ++ []; agreed = agreed; stage = Serving } else record { bytes = []; agreed = agreed; stage = Strayed })
        go false w = silent_by (is_extended agreed.replies) (record { bytes = []; agreed = agreed; stage = Strayed }) refl refl refl refl by
        go true w =
            let f = flags_small agreed.replies export.read_only in
            let s = servable.size in
            record {
              items = Names (held.size export) (flags_of agreed.replies export) ∷ [];
              spelled = refl;
              greets = refl;
              fits = ((λ o. inr (flags_of agreed.replies export, refl, (omega (arith, s), (f, tt)), named_by n by e (bytes_eq-true n export.name w))), (λ other. let bad : true ≡ false = sym by ∙ other in cc));
              ends = λ goes other. let bad : true ≡ false = sym by ∙ other in cc;
              names = λ goes named none. let one = ap length none in omega (arith, one);
              serves = λ goes named. refl;
              stays = λ goes other. let bad : true ≡ false = sym by ∙ other in cc;
              switches = sym (none_switched (is_extended agreed.replies));
            }

    by_info : (agreed : Agreed) (n types : List ℕ) (a b : Bool) → (option == opt_export_name) ≡ false → asked_of option body ≡ Some (asks.Info n types) → (option == opt_extended_headers) ≡ false → Answered (is_extended agreed.replies) (info_answer export agreed option n a b)
    by_info agreed n types a b other e apart = go (bytes_eq n export.name) refl
      where
        go : (t : Bool) → bytes_eq n export.name ≡ t → Answered (is_extended agreed.replies) (if t then record { bytes = put_replies option (information agreed.replies export a b); agreed = agreed; stage = stage_after option } else going option (refused err_unknown ∷ []) agreed)
        go true w = by_replies (is_extended agreed.replies) (record { bytes = put_replies option (information agreed.replies export a b); agreed = agreed; stage = stage_after option }) (information agreed.replies export a b) (after_greets (option == opt_go)) refl (information_run agreed.replies a b) (information_ends agreed.replies a b)
            (λ goes. sym (ap staged (information_acks agreed.replies a b) ∙ ap (λ (c : Bool). if c then Serving else Haggling) (and_true (option == opt_go))))
            (sym (ap (λ (c : Bool). (c && acknowledges (items_of (information agreed.replies export a b))) || is_extended agreed.replies) apart)) other
            (λ goes acks. named_go n types goes e (bytes_eq-true n export.name w))
        go false w = refused_by (is_extended agreed.replies) (going option (refused err_unknown ∷ []) agreed) err_unknown refl (omega arith) refl refl refl refl refl other

    not_go : (replies : List Reply) → (option ≡ opt_go → ⊥) → option ≡ opt_go → acknowledges (items_of replies) ≡ true → name_asked (record { option = option; body = body } ∷ earlier) ≡ Some export.name
    not_go replies never goes acks = absurd (never goes)

    never_staged : (acks : Bool) → (option ≡ opt_go → ⊥) → Haggling ≡ staged acks
    never_staged acks never = sym (ap (λ (b : Bool). if b && acks then Serving else Haggling) (ne_eqb option opt_go never))

    by_meta : (agreed : Agreed) (n : List ℕ) (queries : List (List ℕ)) → (option == opt_export_name) ≡ false → (option ≡ opt_go → ⊥) → (option == opt_extended_headers) ≡ false → Answered (is_extended agreed.replies) (meta_answer export agreed option n queries)
    by_meta agreed n queries other never apart = go (not (is_structured agreed.replies)) (not (bytes_eq n export.name))
      where
        go : (a b : Bool) → Answered (is_extended agreed.replies) (if a then going option (refused err_invalid ∷ []) (without_allocation agreed) else if b then going option (refused err_unknown ∷ []) (without_allocation agreed)
            else going option (contexts (has_allocation queries)) (record { replies = agreed.replies; allocation = has_allocation queries }))
        go true b = refused_by (is_extended agreed.replies) (going option (refused err_invalid ∷ []) (without_allocation agreed)) err_invalid refl (omega arith) refl refl refl refl refl other
        go false true = refused_by (is_extended agreed.replies) (going option (refused err_unknown ∷ []) (without_allocation agreed)) err_unknown refl (omega arith) refl refl refl refl refl other
        go false false = by_replies (is_extended agreed.replies) (going option (contexts (has_allocation queries)) (record { replies = agreed.replies; allocation = has_allocation queries })) (contexts (has_allocation queries)) refl refl (contexts_run (has_allocation queries)) (contexts_ends (has_allocation queries)) (λ goes. never_staged (acknowledges (items_of (contexts (has_allocation queries)))) never)
            (sym (ap (λ (c : Bool). (c && acknowledges (items_of (contexts (has_allocation queries)))) || is_extended agreed.replies) apart)) other (not_go (contexts (has_allocation queries)) never)

    by_switch : (on : Bool) (replies : Replies) (agreed : Agreed) → (option == opt_export_name) ≡ false → (option ≡ opt_go → ⊥) → is_extended replies ≡ switched_by true (is_extended agreed.replies) → Answered (is_extended agreed.replies) (switched on replies option agreed)
    by_switch true replies agreed other never same =
        by_replies (is_extended agreed.replies) (going option (acknowledged ∷ []) (record { replies = replies; allocation = agreed.allocation })) (acknowledged ∷ []) refl refl (one_run acknowledged ack_fair) refl (λ goes. never_staged true never) same other (not_go (acknowledged ∷ []) never)
    by_switch false replies agreed other never same = refused_by (is_extended agreed.replies) (going option (refused err_unsup ∷ []) agreed) err_unsup refl (omega arith) refl refl refl refl refl other

    -- structured replies leave extended headers as they are
    structured_same : (replies : Replies) → is_extended (with_structured replies) ≡ is_extended replies
    structured_same Simple = refl
    structured_same Structured = refl
    structured_same Extended = refl

    -- an option with another number isn't EXTENDED_HEADERS
    other_than : (n : ℕ) → (option == n) ≡ true → (n == opt_extended_headers) ≡ false → (option == opt_extended_headers) ≡ false
    other_than n is apart = ap (λ (k : ℕ). k == opt_extended_headers) (eqb-true option n is) ∙ apart

    unswitched : (acks was : Bool) → (option == opt_extended_headers) ≡ false → was ≡ switched_by acks was
    unswitched acks was apart = sym (ap (λ (c : Bool). (c && acks) || was) apart)

    by_plain : (offers : Offers) (agreed : Agreed) → (option == opt_export_name) ≡ false → (option ≡ opt_go → ⊥) → Answered (is_extended agreed.replies) (plain_answer offers export agreed option)
    by_plain offers agreed other never = go (option == opt_abort) (option == opt_list) (option == opt_structured_reply) (option == opt_extended_headers) refl refl refl refl
      where
        go : (a l s x : Bool) → (option == opt_abort) ≡ a → (option == opt_list) ≡ l → (option == opt_structured_reply) ≡ s → (option == opt_extended_headers) ≡ x →
            Answered (is_extended agreed.replies) (if a then record { bytes = put_replies option (acknowledged ∷ []); agreed = agreed; stage = Ended } else if l then going option (listing export) agreed
            else if s then switched offers.structured (with_structured agreed.replies) option agreed else if x then switched offers.extended Extended option agreed else going option (refused err_unsup ∷ []) agreed)
        go true l s x ea el es ex = by_replies (is_extended agreed.replies) (record { bytes = put_replies option (acknowledged ∷ []); agreed = agreed; stage = Ended }) (acknowledged ∷ []) refl refl (one_run acknowledged ack_fair) refl
            (λ goes. absurd (let bad : true ≡ false = goes in cc)) (unswitched true (is_extended agreed.replies) (other_than opt_abort ea refl)) other (not_go (acknowledged ∷ []) never)
        go false true s x ea el es ex = by_replies (is_extended agreed.replies) (going option (listing export) agreed) (listing export) refl refl (then_run (export_told export) (acknowledged ∷ []) server_fair refl (one_run acknowledged ack_fair)) refl
            (λ goes. never_staged (acknowledges (items_of (listing export))) never) (unswitched (acknowledges (items_of (listing export))) (is_extended agreed.replies) (other_than opt_list el refl)) other (not_go (listing export) never)
        go false false true x ea el es ex = by_switch offers.structured (with_structured agreed.replies) agreed other never (structured_same agreed.replies ∙ unswitched true (is_extended agreed.replies) (other_than opt_structured_reply es refl))
        go false false false true ea el es ex = by_switch offers.extended Extended agreed other never (sym (ap (λ (c : Bool). (c && true) || is_extended agreed.replies) ex))
        go false false false false ea el es ex = refused_by (is_extended agreed.replies) (going option (refused err_unsup ∷ []) agreed) err_unsup refl (omega arith) refl refl refl refl refl other

    -- neither SET_META_CONTEXT nor an option whose data isn't read is GO
    meta_plain : (a : Asked) → asked_of option body ≡ Some a → option ≡ opt_go → (n : List ℕ) × (types : List ℕ) × (a ≡ asks.Info n types)
    unfolding asked_of
    meta_plain a e goes = go (nat_le 4 (length body) && nat_le (6 + number_at 0 4 body) (length body) && (length body == 6 + number_at 0 4 body + 2 * number_at (4 + number_at 0 4 body) 2 body)) (sym (ap (λ (k : ℕ). asked_of k body) goes) ∙ e)
      where
        go : (t : Bool) → (if t then Some (asks.Info (take (number_at 0 4 body) (drop 4 body)) (asks.types_in (number_at (4 + number_at 0 4 body) 2 body) (drop (6 + number_at 0 4 body) body))) else None) ≡ Some a → (n : List ℕ) × (types : List ℕ) × (a ≡ asks.Info n types)
        go true e = (take (number_at 0 4 body) (drop 4 body), asks.types_in (number_at (4 + number_at 0 4 body) 2 body) (drop (6 + number_at 0 4 body) body), cc)
        go false e = cc

    -- INFO, GO and SET_META_CONTEXT aren't EXTENDED_HEADERS
    abbrev IsNot : Asked → Bool → Type 0
    IsNot (asks.Name n) is = Unit {0}
    IsNot (asks.Info n types) is = is ≡ false
    IsNot (asks.Meta n queries) is = is ≡ false
    IsNot asks.Plain is = Unit {0}

    some_not : (one other : Asked) (is : Bool) → IsNot one is → Some one ≡ Some other → IsNot other is
    some_not one other is not_ e = let same : one ≡ other = cc in subst (λ (a : Asked). IsNot a is) same not_

    info_other : (a b : Bool) → (option == opt_info) ≡ a → (option == opt_go) ≡ b → a || b ≡ true → (option == opt_extended_headers) ≡ false
    info_other true b ea eb e = other_than opt_info ea refl
    info_other false true ea eb e = other_than opt_go eb refl
    info_other false false ea eb e = cc

    is_not : (a : Asked) → asked_of option body ≡ Some a → IsNot a (option == opt_extended_headers)
    unfolding asked_of
    is_not a e = go (option == opt_export_name) (asks.is_info option) refl (option == opt_set_meta_context) refl (asks.has_no_data option && not (length body == 0)) e
      where
        infos : (t : Bool) → asks.is_info option ≡ true → (if t then Some (asks.Info (take (number_at 0 4 body) (drop 4 body)) (asks.types_in (number_at (4 + number_at 0 4 body) 2 body) (drop (6 + number_at 0 4 body) body))) else None) ≡ Some a → IsNot a (option == opt_extended_headers)
        infos true i e = some_not (asks.Info (take (number_at 0 4 body) (drop 4 body)) (asks.types_in (number_at (4 + number_at 0 4 body) 2 body) (drop (6 + number_at 0 4 body) body))) a (option == opt_extended_headers) (info_other (option == opt_info) (option == opt_go) refl refl i) e
        infos false i e = cc

        named_with : (n : List ℕ) (v : Option (List (List ℕ))) → (option == opt_set_meta_context) ≡ true → asks.with_name n v ≡ Some a → IsNot a (option == opt_extended_headers)
        named_with n None i e = cc
        named_with n (Some queries) i e = some_not (asks.Meta n queries) a (option == opt_extended_headers) (other_than opt_set_meta_context i refl) e

        metas : (t : Bool) → (option == opt_set_meta_context) ≡ true → (if t then asks.with_name (take (number_at 0 4 body) (drop 4 body)) (asks.texts_in (number_at (4 + number_at 0 4 body) 4 body) (drop (8 + number_at 0 4 body) body)) else None) ≡ Some a → IsNot a (option == opt_extended_headers)
        metas true i e = named_with (take (number_at 0 4 body) (drop 4 body)) (asks.texts_in (number_at (4 + number_at 0 4 body) 4 body) (drop (8 + number_at 0 4 body) body)) i e
        metas false i e = cc

        go : (b i : Bool) → asks.is_info option ≡ i → (m : Bool) → (option == opt_set_meta_context) ≡ m → (d : Bool) → (if b then Some (asks.Name body) else if i then asks.info_asked body else if m then asks.meta_asked body else if d then None else Some asks.Plain) ≡ Some a →
            IsNot a (option == opt_extended_headers)
        go true i ei m em d e = some_not (asks.Name body) a (option == opt_extended_headers) tt e
        go false true ei m em d e = infos (nat_le 4 (length body) && nat_le (6 + number_at 0 4 body) (length body) && (length body == 6 + number_at 0 4 body + 2 * number_at (4 + number_at 0 4 body) 2 body)) ei e
        go false false ei true em d e = metas (nat_le 4 (length body) && nat_le (8 + number_at 0 4 body) (length body)) em e
        go false false ei false em true e = cc
        go false false ei false em false e = some_not asks.Plain a (option == opt_extended_headers) tt e

    lawful_answer : (offers : Offers) (agreed : Agreed) (a : Asked) → asked_of option body ≡ Some a → (t : Bool) → Answered (is_extended agreed.replies) (answer_of offers export true agreed option (if t then Some (request_of a) else None))
    lawful_answer offers agreed a e false = invalid agreed
    lawful_answer offers agreed (asks.Name n) e true = by_name agreed n (kind_of (asks.Name n) e) e
    lawful_answer offers agreed (asks.Info n types) e true = by_info agreed n types (list_any (λ type. type == 1) types) (list_any (λ type. type == 2) types) (kind_of (asks.Info n types) e) e (is_not (asks.Info n types) e)
    lawful_answer offers agreed (asks.Meta n queries) e true = by_meta agreed n queries (kind_of (asks.Meta n queries) e) (λ goes. let m = meta_plain (asks.Meta n queries) e goes in let bad : asks.Meta n queries ≡ asks.Info m.0 m.1 = m.2 in cc) (is_not (asks.Meta n queries) e)
    lawful_answer offers agreed asks.Plain e true = by_plain offers agreed (kind_of asks.Plain e) (λ goes. let m = meta_plain asks.Plain e goes in let bad : asks.Plain ≡ asks.Info m.0 m.1 = m.2 in cc)

    pub answered : (offers : Offers) (agreed : Agreed) → Answered (is_extended agreed.replies) (option_answer offers export true agreed option body)
    answered offers agreed = go (asked_of option body) refl
      where
        go : (v : Option Asked) → asked_of option body ≡ v → Answered (is_extended agreed.replies) (answer_of offers export true agreed option (lawful v))
        go None e = invalid agreed
        go (Some a) e = lawful_answer offers agreed a e (asks_texts a)
