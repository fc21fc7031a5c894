-- The inferred type of a part, or why the check stops there; the check of a file's entries.
use Rattle.std.specs.Prelude.{ℕ, zero, suc, List, [], ◌∷◌, ◌++◌, length}
use Rattle.lp_terms.specs.Term.{Lp, opened, closed}
use Rattle.lp_terms.specs.Signature.{Entry}
use Rattle.lp_terms.specs.Reduction.{instance_at}
use Rattle.lp_terms.specs.Typing.{Context, Class}
use Rattle.lp_terms.specs.WellFormed.{rule_context, rule_variables, head}
use Rattle.dk_checker.specs.Found.{Stop, Found, and_then, part}
use Rattle.dk_checker.specs.Asking.{depth, or_unbound, type_of_constant, of_variable, asks, asks_sort, asks_body, asks_product, asks_head}

module _ (sigma : List Entry) (limit : ℕ) where
  -- The inferred type of a part: g holds the variables of the binders round it, and its indices stand for us.
  module _ (more : Context → Lp → Lp → Found (Unit {0})) where
    abbrev pub infer : Context → List Lp → Lp → Found Class
    infer g us Lp.sort = Found.gives Class.kind
    infer g us (Lp.const name) = or_unbound (type_of_constant sigma name)
    infer g us (Lp.free n) = of_variable g (Lp.free n)
    infer g us (Lp.index i) = of_variable g (instance_at 0 us (Lp.index i))
    infer g us (Lp.app f a) =
        and_then (part 0 (and_then (infer g us f) (asks_product sigma limit more g))) (λ p.
        and_then (part 1 (and_then (infer g us a) (asks sigma limit (depth g) (Class.of p.0)))) (λ _.
        Found.gives (Class.of (opened p.1 (instance_at 0 us a)))))
    infer g us (Lp.abs a t) =
        and_then (part 0 (and_then (infer g us a) (asks sigma limit (depth g) (Class.of Lp.sort)))) (λ _.
        and_then (part 1 (and_then (infer (Context.bind (depth g) (instance_at 0 us a) g) (Lp.free (depth g) ∷ us) t) asks_body)) (λ b.
        Found.gives (Class.of (Lp.prod (instance_at 0 us a) (closed (depth g) b)))))
    infer g us (Lp.prod a b) =
        and_then (part 0 (and_then (infer g us a) (asks sigma limit (depth g) (Class.of Lp.sort)))) (λ _.
        part 1 (and_then (infer (Context.bind (depth g) (instance_at 0 us a) g) (Lp.free (depth g) ∷ us) b)
        (asks_sort sigma limit (suc (depth g)))))

  -- What is asked further of the normal form u of the type t of an applied part: it is inferred as a part of the file is,
  -- while the chain of such types may get one more.
  abbrev pub more_types : ℕ → Context → Lp → Lp → Found (Unit {0})
  more_types zero g t u = Found.stops (Stop.spent t)
  more_types (suc chain) g t u = and_then (infer (more_types chain) g [] u) (λ _. Found.gives tt)

  -- the inferred type of a part of the file; a chain has at most 64 types
  abbrev pub type_of : Context → List Lp → Lp → Found Class
  type_of = infer (more_types 64)

  -- each type of a rule's context asks Type after the variables before it
  abbrev pub check_context : List Lp → ℕ → List Lp → Context → Found (Unit {0})
  check_context [] k us g = Found.gives tt
  check_context (type ∷ types) k us g =
      and_then (part k (and_then (type_of g us type) (asks sigma limit (depth g) (Class.of Lp.sort)))) (λ _.
      check_context types (suc k) (Lp.free k ∷ us) (Context.bind k (instance_at 0 us type) g))

  -- the right side asks the type of the left side
  abbrev pub check_sides : ℕ → List Lp → Context → Lp → Lp → Found (Unit {0})
  check_sides k us g left right =
      and_then (part k (type_of g us left)) (λ wanted.
      part (suc k) (and_then (type_of g us right) (asks sigma limit (depth g) wanted)))

  abbrev pub check_entry : Entry → Found (Unit {0})
  check_entry (Entry.declare name definable type) =
      and_then (part 0 (and_then (type_of Context.empty [] type) (asks_sort sigma limit 0))) (λ _. Found.gives tt)
  check_entry (Entry.define name type body) =
      and_then (part 0 (and_then (type_of Context.empty [] type) (asks_sort sigma limit 0))) (λ _.
      part 1 (and_then (type_of Context.empty [] body) (asks sigma limit 0 (Class.of type))))
  check_entry (Entry.rule context left right) =
      and_then (asks_head sigma limit (head left)) (λ _.
      and_then (check_context context 0 [] Context.empty) (λ _.
      check_sides (length context) (rule_variables context 0 []) (rule_context context 0 [] Context.empty) left right))

-- the entries one after the other, each after those before it; a place begins with the entry's number
abbrev pub check_after : ℕ → List Entry → ℕ → List Entry → Found (Unit {0})
check_after limit sigma k [] = Found.gives tt
check_after limit sigma k (e ∷ entries) =
    and_then (part k (check_entry sigma limit e)) (λ _. check_after limit (sigma ++ (e ∷ [])) (suc k) entries)

abbrev pub check : ℕ → List Entry → Found (Unit {0})
check limit entries = check_after limit [] 0 entries
