-- What a handle agreed on and what its link heard are the same, though the handle asked its options by itself and the link's were each the caller's.
use Rattle.std.proofs.Common.{◌≡◌, ℕ, Bool, true, false, not, ◌&&◌, ◌||◌, List, [], ◌∷◌, ◌++◌, Option, Some, None, refl, ap, subst, ◌∙◌, ◌==◌, if◌then◌else◌}
use Rattle.lnbd_records.specs.Told.{Told}
use Rattle.lnbd_records.specs.Options.{opt_extended_headers, opt_set_meta_context}
use Rattle.lnbd_history.specs.declared.kinds.Phase.TheVariants.{Asked}
use Rattle.lnbd_history.specs.Agreement.{Turn, Hello, Replied, ByName, Opted, End, Step, Answered, phase, steps, under_way, with_reply, end_of, answered, structured, extended, contexts, export, export_of, contexts_told, size_told, blocks_told, name_told, description_told, is_acknowledged, settles_replies, is_info, opt_mode, asks_structured, asks_extended, contexts_now}

-- all by which the server is judged and what it agreed to
pub record SameSteps (one other : List Step) : Type 0 where
  pub structured : structured one ≡ structured other
  pub extended : extended one ≡ extended other
  pub contexts : contexts one ≡ contexts other
  pub export : export one ≡ export other

pub record SameTurns (handle link : List Turn) : Type 0 where
  pub under : under_way handle ≡ under_way link
  pub steps : SameSteps (steps handle) (steps link)
  -- the link's options are each the caller's
  pub opts : opt_mode link ≡ true
  pub plain : asks_structured link ≡ false
  pub narrow : asks_extended link ≡ false
  pub bare : contexts_now link ≡ []

same_answer : (by also : Bool) (option : ℕ) (replies others : List Told) (end : End) (one other : List Step) → replies ≡ others → SameSteps one other →
    SameSteps (Answered by option replies end ∷ one) (Answered also option others end ∷ other)
same_answer by also option replies others end one other r s = record {
  structured = ap (λ b. (settles_replies option && is_acknowledged end) || b) s.structured;
  extended = ap (λ b. ((option == opt_extended_headers) && is_acknowledged end) || b) s.extended;
  contexts = ap (λ rs. if option == opt_set_meta_context then if is_acknowledged end then contexts_told rs else [] else contexts one) r
      ∙ ap (λ cs. if option == opt_set_meta_context then if is_acknowledged end then contexts_told others else [] else cs) s.contexts;
  export = ap (λ rs. if is_info option && is_acknowledged end then export_of (size_told rs) (blocks_told rs) (name_told rs) (description_told rs) else export one) r
      ∙ ap (λ x. if is_info option && is_acknowledged end then export_of (size_told others) (blocks_told others) (name_told others) (description_told others) else x) s.export;
}

-- a reply to the option that both are asked
replied_steps : (by also : Bool) (end : Option End) (option : ℕ) (replies others : List Told) (one other : List Step) → replies ≡ others → SameSteps one other →
    SameSteps (answered by end replies (Asked option) ++ one) (answered also end others (Asked option) ++ other)
replied_steps by also None option replies others one other r s = s
replied_steps by also (Some end) option replies others one other r s = same_answer (by && not (settles_replies option)) (also && not (settles_replies option)) option replies others end one other r s

with_reply_same : (end : Option End) (told : Told) (replies others : List Told) → replies ≡ others → with_reply end told replies ≡ with_reply end told others
with_reply_same None told replies others r = ap (λ rs. told ∷ rs) r
with_reply_same (Some end) told replies others r = refl

pub same_replied : (told : Told) (option : ℕ) (handle link : List Turn) → phase handle ≡ Asked option → phase link ≡ Asked option → SameTurns handle link → SameTurns (Replied told ∷ handle) (Replied told ∷ link)
same_replied told option handle link p q s = record {
  under = with_reply_same (end_of told) told (under_way handle) (under_way link) s.under;
  steps = subst2 (replied_steps (opt_mode handle) (opt_mode link) (end_of told) option (under_way handle) (under_way link) (steps handle) (steps link) s.under s.steps);
  opts = s.opts;
  plain = s.plain;
  narrow = s.narrow;
  bare = s.bare;
}
  where
    subst2 : SameSteps (answered (opt_mode handle) (end_of told) (under_way handle) (Asked option) ++ steps handle) (answered (opt_mode link) (end_of told) (under_way link) (Asked option) ++ steps link) →
        SameSteps (steps (Replied told ∷ handle)) (steps (Replied told ∷ link))
    subst2 = subst (λ a. SameSteps (answered (opt_mode handle) (end_of told) (under_way handle) a ++ steps handle) (answered (opt_mode link) (end_of told) (under_way link) (Asked option) ++ steps link) → SameSteps (steps (Replied told ∷ handle)) (steps (Replied told ∷ link))) p
        (subst (λ b. SameSteps (answered (opt_mode handle) (end_of told) (under_way handle) (phase handle) ++ steps handle) (answered (opt_mode link) (end_of told) (under_way link) b ++ steps link) → SameSteps (steps (Replied told ∷ handle)) (steps (Replied told ∷ link))) q (λ x. x))

pub same_hello : (handle link : List Turn) → SameTurns handle link → SameTurns (Hello ∷ handle) (Hello ∷ link)
same_hello handle link s = record { under = s.under; steps = s.steps; opts = s.opts; plain = s.plain; narrow = s.narrow; bare = s.bare }

pub same_by_name : (size flags : ℕ) (handle link : List Turn) → SameTurns handle link → SameTurns (ByName size flags ∷ handle) (ByName size flags ∷ link)
same_by_name size flags handle link s = record {
  under = s.under;
  steps = record { structured = s.steps.structured; extended = s.steps.extended; contexts = s.steps.contexts; export = refl };
  opts = s.opts;
  plain = s.plain;
  narrow = s.narrow;
  bare = s.bare;
}

-- the option that the handle asks next is one that the link was told of
pub same_opted : (option : ℕ) (handle link : List Turn) → SameTurns handle link → SameTurns handle (Opted option ∷ link)
same_opted option handle link s = record { under = s.under; steps = s.steps; opts = s.opts; plain = s.plain; narrow = s.narrow; bare = s.bare }
