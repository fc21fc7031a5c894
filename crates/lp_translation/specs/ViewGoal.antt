-- The hypotheses of a goal's sequent, which is read at the root of its derivation.
use Rattle.std.specs.Prelude.{ℕ, suc, List, [], ◌∷◌}
use Rattle.lp_terms.specs.Term.{Lp}
use Rattle.zm_logic.specs.Tree.{Form}
use Rattle.lp_signature.specs.Names.{premise_name}
use Rattle.lp_translation.specs.ProofOf.{Hypotheses}

-- the kept premises' constants prove the formulas, in order, the first with the number k
abbrev pub by_forms : ℕ → List Form → Hypotheses → Hypotheses
by_forms k [] hs = hs
by_forms k (f ∷ fs) hs = by_forms (suc k) fs (Hypotheses.more (f ∷ []) (Lp.const (premise_name k)) hs)

-- the same, and the variable 0 proves the last formula
abbrev pub by_sequent_from : ℕ → List Form → Hypotheses → Hypotheses
by_sequent_from k [] hs = hs
by_sequent_from k (f ∷ []) hs = Hypotheses.more (f ∷ []) (Lp.free 0) hs
by_sequent_from k (f ∷ g ∷ fs) hs = by_sequent_from (suc k) (g ∷ fs) (Hypotheses.more (f ∷ []) (Lp.const (premise_name k)) hs)

abbrev pub by_sequent : List Form → Hypotheses → Hypotheses
by_sequent fs hs = by_sequent_from 0 fs hs
