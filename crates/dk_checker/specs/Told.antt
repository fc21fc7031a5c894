-- What single functions of the code tell of an inference.
use Rattle.std.specs.Prelude.{ℕ, Bool, true, false, List, [], ◌∷◌, ◌++◌, ◌≡◌, length}
use Rattle.lp_terms.specs.declared.term.Lp.{Lp}
use Rattle.lp_terms.specs.Term as plain
use Rattle.lp_terms.specs.Term.{opened, closed}
use Rattle.lp_terms.specs.Signature.{Entry}
use Rattle.lp_terms.specs.Reduction.{instance_at}
use Rattle.lp_terms.specs.Typing.{Context, Class}
use Rattle.dk_checker.specs.Found.{Refusal, Found, refuses, and_then, part, here}
use Rattle.dk_checker.specs.Asking.{depth, on_product, normal_form, asks, asks_sort, asks_body, asks_product}
use Rattle.lp_terms.specs.WellFormed.{rule_variables, rule_context}
use Rattle.lp_terms.specs.View.{term_of}
use Rattle.dk_checker.specs.Inference.{infer, more_types, type_of, check_context, check_sides}
use Rattle.dk_checker.specs.View.{context_of, variables}

abbrev pub is_product : plain.Lp → Bool
is_product (plain.Lp.prod a b) = true
is_product _ = false

-- what is found of an abstraction, from its domain and what is found of its body
abbrev pub abstraction_found : ℕ → plain.Lp × Class → Found Class
abstraction_found n p = and_then (part 1 (asks_body p.1)) (λ b. Found.gives (Class.of (plain.Lp.prod p.0 (closed n b))))

-- The variables are those of the types, and the last ones stand for a part's indices; the chain may get so many types more.
module _ (sigma : List Entry) (limit chain : ℕ) (ts : List Lp) (inner : ℕ) where
  abbrev pub found_in : plain.Lp → Found Class
  found_in t = infer sigma limit (more_types sigma limit chain) (context_of ts) (variables (length ts) inner) t

  -- of a part that is to have the class
  abbrev pub found_as : Class → plain.Lp → Found (Unit {0})
  found_as wanted t = and_then (found_in t) (asks sigma limit (depth (context_of ts)) wanted)

  -- of an applied part
  abbrev pub product_found : plain.Lp → Found (plain.Lp × plain.Lp)
  product_found f = and_then (found_in f) (asks_product sigma limit (more_types sigma limit chain) (context_of ts))

  -- of what is under a binder, with the binder's domain
  abbrev pub under_found : plain.Lp → plain.Lp → Found (plain.Lp × Class)
  under_found domain t =
      and_then (infer sigma limit (more_types sigma limit chain) (Context.bind (depth (context_of ts)) domain (context_of ts))
      (plain.Lp.free (depth (context_of ts)) ∷ variables (length ts) inner) t) (λ c. Found.gives (domain, c))

  -- of a binder: its domain asks Type
  abbrev pub binder_found : plain.Lp → plain.Lp → Found (plain.Lp × Class)
  binder_found a t =
      and_then (part 0 (found_as (Class.of plain.Lp.sort) a)) (λ _. part 1 (under_found (instance_at 0 (variables (length ts) inner) a) t))

-- of an applied part whose type is no product
abbrev pub reduced_found : List Entry → ℕ → ℕ → List Lp → plain.Lp → Found (plain.Lp × plain.Lp)
reduced_found sigma limit chain ts t =
    and_then (normal_form sigma limit (depth (context_of ts)) t) (λ u. on_product u
    (λ a b. and_then (here (more_types sigma limit chain (context_of ts) t u)) (λ _. Found.gives (a, b)))
    (refuses (Refusal.not_product (Class.of t) (Class.of u))))

module _ (sigma : List Entry) (limit : ℕ) where
  -- of the type of a declaration or a definition
  abbrev pub check_type : plain.Lp → Found (Unit {0})
  check_type type = and_then (part 0 (and_then (type_of sigma limit Context.empty [] type) (asks_sort sigma limit 0))) (λ _. Found.gives tt)

  -- of the body of a definition
  abbrev pub check_body : plain.Lp → plain.Lp → Found (Unit {0})
  check_body type body = part 1 (and_then (type_of sigma limit Context.empty [] body) (asks sigma limit 0 (Class.of type)))

  -- of a rule's context and sides
  abbrev pub check_rule : List plain.Lp → plain.Lp → plain.Lp → Found (Unit {0})
  check_rule context left right =
      and_then (check_context sigma limit context 0 [] Context.empty) (λ _.
      check_sides sigma limit (length context) (rule_variables context 0 []) (rule_context context 0 [] Context.empty) left right)

  -- of the next type of a context
  abbrev pub context_type_found : List Lp → plain.Lp → Found (Unit {0})
  context_type_found ts type =
      part (length ts) (and_then (type_of sigma limit (context_of ts) (variables (length ts) (length ts)) type) (asks sigma limit (depth (context_of ts)) (Class.of plain.Lp.sort)))

-- the type stands behind the others, with their variables for its indices
abbrev pub IsTypeAdded : plain.Lp → List Lp → List Lp → Type 0
IsTypeAdded type ts more = (t : Lp) × (more ≡ ts ++ t ∷ []) × (term_of t ≡ instance_at 0 (variables (length ts) (length ts)) type)
