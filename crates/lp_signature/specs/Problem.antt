-- The signature of a problem and its selection of rules: the prelude, the symbols, the rules, and the kept premises.
use Rattle.std.specs.Prelude.{ℕ, suc, Bool, false, ◌==◌, ◌||◌, List, [], ◌∷◌, ◌++◌, map}
use Rattle.lp_terms.specs.Term.{Lp}
use Rattle.lp_terms.specs.Signature.{Entry}
use Rattle.zm_logic.specs.Tree.{Term, Form, Binder, Side, Rule, Premise, Problem, Symbol}
use Rattle.rule_select.specs.Selection.{Selection, kept_premises}
use Rattle.lp_signature.specs.Prelude.{prf, types, term, prelude}
use Rattle.lp_signature.specs.Names.{symbol_name, premise_name}
use Rattle.lp_signature.specs.Translation.{Scope, type_of, term_of, form_of, symbol_type}

-- the symbol's number is that of the head of a side
abbrev pub is_head : ℕ → Side → Bool
is_head n (Side.of_term (Term.app f ts us)) = n == f
is_head n (Side.of_form (Form.atom p ts us)) = n == p
is_head n _ = false

-- some rule rewrites what the symbol makes
abbrev pub heads : List Rule → ℕ → Bool
heads [] n = false
heads (r ∷ rs) n = is_head n r.left || heads rs n

module _ (symbols : List Symbol) where
  -- the declarations, in order, with def where the symbol heads a rule; the first has the number n
  abbrev pub symbol_entries : List Rule → ℕ → List Symbol → List Entry
  symbol_entries rules n [] = []
  symbol_entries rules n (d ∷ ds) =
      Entry.declare (symbol_name d) (heads rules n) (symbol_type symbols d) ∷ symbol_entries rules (suc n) ds

  -- a rule's context: the types of its binders, each of which counts those before it
  abbrev pub binder_type : Binder → Lp
  binder_type Binder.of_type = types
  binder_type (Binder.of_term t) = term (type_of symbols Scope.none 0 t)

  abbrev pub side_of : Side → Lp
  side_of (Side.of_term u) = term_of symbols Scope.none u
  side_of (Side.of_form f) = form_of symbols Scope.none f

  abbrev pub rule_entry : Rule → Entry
  rule_entry r = Entry.rule (map binder_type r.binders) (side_of r.left) (side_of r.right)

  -- the constants that prove the premises, in order, the first with the number k
  abbrev pub premise_entries : ℕ → List Premise → List Entry
  premise_entries k [] = []
  premise_entries k (p ∷ ps) =
      Entry.declare (premise_name k) false (prf (form_of symbols Scope.none p.form)) ∷ premise_entries (suc k) ps

-- the signature
abbrev pub signature : Problem → Selection → List Entry
signature p s =
    prelude
    ++ symbol_entries p.symbols s.rules 1 p.symbols
    ++ map (rule_entry p.symbols) s.rules
    ++ premise_entries p.symbols 0 (kept_premises p s)
