-- The signature of a typed problem is well formed.
use Rattle.std.proofs.Common.{ℕ, Option, Some, None, List, [], ◌∷◌, ◌++◌, map, All}
use Rattle.std.proofs.lemmas.List.Elements.{All-nil, All-cons, All-head, All-tail}
use Rattle.lp_terms.specs.Signature.{Entry, Extends}
use Rattle.lp_terms.specs.WellFormed.{IsWellFormed, IsWellFormedAfter}
use Rattle.zm_logic.specs.Tree.{Premise}
use Rattle.zm_logic.specs.Problem.{IsProblemForm}
use Rattle.rule_select.specs.Selection.{kept_of, kept_premises}
use Rattle.rule_select.specs.Laws.{SelectedRulesAreSound}
use Rattle.lp_signature.specs.Prelude.{prelude}
use Rattle.lp_signature.specs.Problem.{symbol_entries, premise_entries, rule_entry}
use Rattle.lp_signature.specs.WellFormedLaws.{SignaturesAreWellFormed}
use Rattle.lp_signature.proofs.Logic.{extends_append}
use Rattle.lp_signature.proofs.PreludeIsWellFormed.{prelude_is_well_formed}
use Rattle.lp_signature.proofs.TypedEntries.{after_append, symbol_entries_after, premises_after}
use Rattle.lp_signature.proofs.TypedTrees.{behind}
use Rattle.lp_signature.proofs.TypedRules.{rules_after}

-- what holds of all premises holds of the kept ones
kept_all : (P : Premise → Type 0) (ps : List Premise) (numbers : List (Option ℕ)) → All P ps
    → All P (kept_of ps numbers)
kept_all P [] numbers a = a
kept_all P (p ∷ ps) [] a = All-nil P
kept_all P (p ∷ ps) (None ∷ numbers) a =
    All-cons P p (kept_of ps numbers) (All-head P p ps a) (kept_all P ps numbers (All-tail P p ps a))
kept_all P (p ∷ ps) (Some k ∷ numbers) a = kept_all P ps numbers (All-tail P p ps a)

-- four parts, each well formed after those before it
four_parts : (a b c d : List Entry) → IsWellFormed a → IsWellFormedAfter a b → IsWellFormedAfter (a ++ b) c
    → IsWellFormedAfter ((a ++ b) ++ c) d
    → IsWellFormed (((a ++ b) ++ c) ++ d)
four_parts a b c d h k l m =
    after_append [] ((a ++ b) ++ c) d (after_append [] (a ++ b) c (after_append [] a b h k) l) m

pub signatures_are_well_formed : SelectedRulesAreSound → SignaturesAreWellFormed
signatures_are_well_formed sound p s typed selects =
    let symbols = p.symbols in
    let rules = s.rules in
    let a : List Entry = symbol_entries symbols rules 1 symbols in
    let b : List Entry = map (rule_entry symbols) rules in
    let kept = kept_premises p s in
    let more : Extends prelude (prelude ++ a) = extends_append prelude a in
    let held : Extends a (prelude ++ a) = λ e h. behind prelude h in
    four_parts prelude a b (premise_entries symbols 0 kept) prelude_is_well_formed
    (symbol_entries_after symbols typed.signature rules prelude (λ e h. h))
    (rules_after symbols typed.signature rules rules (prelude ++ a) more held (λ r h. h) (λ r h. sound p s r typed selects h))
    (premises_after symbols typed.signature rules kept ((prelude ++ a) ++ b) 0
    (λ e h. extends_append (prelude ++ a) b e (more e h)) (λ e h. extends_append (prelude ++ a) b e (held e h))
    (kept_all (λ q. IsProblemForm symbols q.form) p.premises s.rule_of typed.premises))
