-- What the check of an entry tells, from what its parts tell.
use Rattle.std.proofs.Common.{ℕ, suc, ◌≡◌, ◌<◌, List, [], ◌∷◌, get_or, drop, sym, ap, ap₂, ◌∙◌, subst, arith}
use Rattle.std.specs.Prelude.{Result, Ok, Err, length}
use Rattle.std.proofs.lemmas.List.{length-map}
use Rattle.std.proofs.Math.Seq.{drop-cons}
use Rattle.lp_terms.specs.declared.term.Lp as code
use Rattle.lp_terms.specs.View.{term_of, terms_of}
use Rattle.lp_terms.specs.Term.{Lp}
use Rattle.lp_terms.specs.Signature.{Entry}
use Rattle.lp_terms.specs.Reduction.{instance_at}
use Rattle.lp_terms.specs.Typing.{Class, Context}
use Rattle.lp_terms.specs.WellFormed.{rule_context, rule_variables, head}
use Rattle.dk_checker.specs.declared.stop.Stop.{Stop}
use Rattle.dk_checker.specs.declared.stop.Stop.TheVariants as stops
use Rattle.dk_checker.specs.declared.verdict.Class as classes
use Rattle.dk_checker.specs.Found.{Found, and_then, part, in_part}
use Rattle.dk_checker.specs.Found as found
use Rattle.dk_checker.specs.Asking.{depth, asks, asks_sort, asks_head}
use Rattle.dk_checker.specs.Inference.{type_of, check_context, check_sides, check_entry}
use Rattle.dk_checker.specs.View.{class_of, context_of, variables, Stopped, Tells, InPart}
use Rattle.dk_checker.specs.Told.{found_in, found_as, check_type, check_body, check_rule, context_type_found, IsTypeAdded}
use Rattle.dk_checker.proofs.Variables.{depth_context, context_push, length_push, rule_variables_are}
use Rattle.dk_checker.proofs.Told.{stopped_then, tells_part, tells_then}
use Rattle.dk_checker.proofs.Ends.{part_gives, part_stops}

abbrev the_stop : {A : Type 0} → found.Stop → Found A → found.Stop
the_stop t (Found.gives x) = t
the_stop t (Found.stops s) = s

-- an answer that is let go
unit_stops : {A B : Type 0} (m : Found A) (f : A → Found B) (e : Stop) → Stopped (and_then {B = Unit {0}} m (λ _. Found.gives tt)) e → Stopped (and_then m f) e
unit_stops m f stops.Memory h = tt
unit_stops (Found.gives x) f (stops.Halted k) h = absurd (grind (arith, h))
unit_stops (Found.stops s) f (stops.Halted k) h = ap (λ x. Found.stops (the_stop s x)) h

unit_gives : {A B C : Type 0} (view : C → B) (m : Found A) (n : Found B) (r : Result C Stop) → and_then {B = Unit {0}} m (λ _. Found.gives tt) ≡ Found.gives tt → Tells view n r → Tells view (and_then m (λ _. n)) r
unit_gives view (Found.gives x) n r h t = t
unit_gives view (Found.stops s) n r h t = absurd (grind (arith, h))

-- what is left of a list from an element on
pub dropped : {A : Type 0} (xs : List A) (i j : ℕ) (x : A) → i < length xs → x ≡ get_or xs i x → j ≡ suc i → drop i xs ≡ x ∷ drop j xs
dropped xs i j x h e k = drop-cons xs i x h ∙ ap₂ (λ y n. y ∷ drop n xs) (sym e) (sym k)

-- the context of a rule of which types are left
abbrev pub rule_left : List code.Lp → List code.Lp → Context
rule_left ts cs = rule_context (terms_of cs) (length ts) (variables (length ts) (length ts)) (context_of ts)

module _ (sigma : List Entry) (limit : ℕ) where
  -- the type of a declaration or a definition
  pub sort_stops : (ts : List code.Lp) (t : Lp) (e : Stop) → ts ≡ [] → Stopped (found_in sigma limit 64 ts 0 t) e → Stopped (and_then (type_of sigma limit Context.empty [] t) (asks_sort sigma limit 0)) e
  sort_stops ts t e z h =
      stopped_then (type_of sigma limit Context.empty [] t) (asks_sort sigma limit 0) e (subst (λ us. Stopped (found_in sigma limit 64 us 0 t) e) z h)

  pub sort_ends : (ts : List code.Lp) (t : Lp) (c : Class) (r : Result classes.Class Stop) → ts ≡ [] → found_in sigma limit 64 ts 0 t ≡ Found.gives c → Tells class_of (asks_sort sigma limit 0 c) r →
      Tells class_of (and_then (type_of sigma limit Context.empty [] t) (asks_sort sigma limit 0)) r
  sort_ends ts t c r z e h =
      tells_then class_of (type_of sigma limit Context.empty [] t) (asks_sort sigma limit 0) c r (ap (λ us. found_in sigma limit 64 us 0 t) (sym z) ∙ e) h

  pub type_stops : (t : Lp) (g r : Result classes.Class Stop) (e : Stop) → Tells class_of (and_then (type_of sigma limit Context.empty [] t) (asks_sort sigma limit 0)) g → InPart 0 g r → r ≡ Err e →
      Stopped (check_type sigma limit t) e
  type_stops t g r e h p q =
      stopped_then (part 0 (and_then (type_of sigma limit Context.empty [] t) (asks_sort sigma limit 0))) (λ _. Found.gives tt) e
      (part_stops class_of 0 (and_then (type_of sigma limit Context.empty [] t) (asks_sort sigma limit 0)) g r e h p q)

  pub type_ends : (t : Lp) (g r : Result classes.Class Stop) (x : classes.Class) → Tells class_of (and_then (type_of sigma limit Context.empty [] t) (asks_sort sigma limit 0)) g → InPart 0 g r → r ≡ Ok x →
      check_type sigma limit t ≡ Found.gives tt
  type_ends t g r x h p q =
      ap (λ m. and_then m (λ _. Found.gives tt)) (part_gives class_of 0 (and_then (type_of sigma limit Context.empty [] t) (asks_sort sigma limit 0)) g r x h p q)

  -- the body of a definition
  pub body_ends : {U : Type 0} (ts : List code.Lp) (t body : Lp) (w : Class) (g r : Result U Stop) → ts ≡ [] → w ≡ Class.of t → Tells (λ _. tt) (found_as sigma limit 64 ts 0 w body) g → InPart 1 g r →
      Tells (λ _. tt) (check_body sigma limit t body) r
  body_ends {U} ts t body w g r z e h p =
      tells_part (λ (u : U). tt) 1 (and_then (type_of sigma limit Context.empty [] body) (asks sigma limit 0 (Class.of t))) g r
      (subst (λ c. Tells (λ (u : U). tt) (found_as sigma limit 64 [] 0 c body) g) e (subst (λ us. Tells (λ (u : U). tt) (found_as sigma limit 64 us 0 w body) g) z h)) p

  -- an entry
  pub define_stops : (name : List ℕ) (t body : Lp) (e : Stop) → Stopped (check_type sigma limit t) e → Stopped (check_entry sigma limit (Entry.define name t body)) e
  define_stops name t body e h =
      unit_stops (part 0 (and_then (type_of sigma limit Context.empty [] t) (asks_sort sigma limit 0))) (λ _. check_body sigma limit t body) e h

  pub define_ends : {U : Type 0} (name : List ℕ) (t body : Lp) (r : Result U Stop) → check_type sigma limit t ≡ Found.gives tt → Tells (λ _. tt) (check_body sigma limit t body) r →
      Tells (λ _. tt) (check_entry sigma limit (Entry.define name t body)) r
  define_ends {U} name t body r e h =
      unit_gives (λ (u : U). tt) (part 0 (and_then (type_of sigma limit Context.empty [] t) (asks_sort sigma limit 0))) (check_body sigma limit t body) r e h

  pub rule_stops : (context : List Lp) (left right : Lp) (e : Stop) → Stopped (asks_head sigma limit (head left)) e → Stopped (check_entry sigma limit (Entry.rule context left right)) e
  rule_stops context left right e h = stopped_then (asks_head sigma limit (head left)) (λ _. check_rule sigma limit context left right) e h

  pub rule_ends : {U : Type 0} (context : List Lp) (left right : Lp) (r : Result U Stop) → asks_head sigma limit (head left) ≡ Found.gives tt → Tells (λ _. tt) (check_rule sigma limit context left right) r →
      Tells (λ _. tt) (check_entry sigma limit (Entry.rule context left right)) r
  rule_ends {U} context left right r e h = tells_then (λ (u : U). tt) (asks_head sigma limit (head left)) (λ _. check_rule sigma limit context left right) tt r e h

  -- a rule
  pub context_stops : (context : List Lp) (left right : Lp) (e : Stop) → Stopped (check_context sigma limit context 0 [] Context.empty) e → Stopped (check_rule sigma limit context left right) e
  context_stops context left right e h =
      stopped_then (check_context sigma limit context 0 [] Context.empty)
      (λ _. check_sides sigma limit (length context) (rule_variables context 0 []) (rule_context context 0 [] Context.empty) left right) e h

  pub sides_end : {U : Type 0} (ts cs : List code.Lp) (left right : Lp) (r : Result U Stop) → check_context sigma limit (terms_of cs) 0 [] Context.empty ≡ Found.gives tt →
      context_of ts ≡ rule_context (terms_of cs) 0 [] Context.empty → length ts ≡ length cs →
      Tells (λ _. tt) (check_sides sigma limit (length ts) (variables (length ts) (length ts)) (context_of ts) left right) r → Tells (λ _. tt) (check_rule sigma limit (terms_of cs) left right) r
  sides_end {U} ts cs left right r e c l h =
      let n : length ts ≡ length (terms_of cs) = l ∙ sym (length-map cs term_of) in
      let v : variables (length ts) (length ts) ≡ rule_variables (terms_of cs) 0 [] = sym (rule_variables_are (terms_of cs) 0 (length ts) (omega arith)) in
      tells_then (λ (u : U). tt) (check_context sigma limit (terms_of cs) 0 [] Context.empty)
      (λ _. check_sides sigma limit (length (terms_of cs)) (rule_variables (terms_of cs) 0 []) (rule_context (terms_of cs) 0 [] Context.empty) left right) tt r e
      (subst (λ m. Tells (λ (u : U). tt) (check_sides sigma limit m (rule_variables (terms_of cs) 0 []) (rule_context (terms_of cs) 0 [] Context.empty) left right) r) n
      (subst (λ us. Tells (λ (u : U). tt) (check_sides sigma limit (length ts) us (rule_context (terms_of cs) 0 [] Context.empty) left right) r) v
      (subst (λ g. Tells (λ (u : U). tt) (check_sides sigma limit (length ts) (variables (length ts) (length ts)) g left right) r) c h)))

  -- the sides
  pub left_stops : (ts : List code.Lp) (n : ℕ) (left right : Lp) (g r : Result classes.Class Stop) (e : Stop) → n ≡ length ts → Tells class_of (found_in sigma limit 64 ts n left) g → InPart (length ts) g r → r ≡ Err e →
      Stopped (check_sides sigma limit (length ts) (variables (length ts) (length ts)) (context_of ts) left right) e
  left_stops ts n left right g r e d h p q =
      stopped_then (part (length ts) (type_of sigma limit (context_of ts) (variables (length ts) (length ts)) left)) _ e
      (part_stops class_of (length ts) (found_in sigma limit 64 ts (length ts) left) g r e (subst (λ k. Tells class_of (found_in sigma limit 64 ts k left) g) d h) p q)

  pub right_ends : {U : Type 0} (ts us : List code.Lp) (n m : ℕ) (left right : Lp) (g s : Result classes.Class Stop) (w : classes.Class) (h r : Result U Stop) → n ≡ length ts → m ≡ suc (length ts) → us ≡ ts →
      Tells class_of (found_in sigma limit 64 ts n left) g → InPart (length ts) g s → s ≡ Ok w → Tells (λ _. tt) (found_as sigma limit 64 us n (class_of w) right) h → InPart m h r →
      Tells (λ _. tt) (check_sides sigma limit (length ts) (variables (length ts) (length ts)) (context_of ts) left right) r
  right_ends {U} ts us n m left right g s w h r d l same t p q v x =
      tells_then (λ (u : U). tt) (part (length ts) (type_of sigma limit (context_of ts) (variables (length ts) (length ts)) left))
      (λ wanted. part (suc (length ts)) (and_then (type_of sigma limit (context_of ts) (variables (length ts) (length ts)) right) (asks sigma limit (depth (context_of ts)) wanted))) (class_of w) r
      (part_gives class_of (length ts) (found_in sigma limit 64 ts (length ts) left) g s w (subst (λ k. Tells class_of (found_in sigma limit 64 ts k left) g) d t) p q)
      (tells_part (λ (u : U). tt) (suc (length ts)) (found_as sigma limit 64 ts (length ts) (class_of w) right) h r
      (subst (λ k. Tells (λ (u : U). tt) (found_as sigma limit 64 ts k (class_of w) right) h) d (subst (λ ws. Tells (λ (u : U). tt) (found_as sigma limit 64 ws n (class_of w) right) h) same v))
      (subst (λ k. InPart k h r) l x))

  -- the next type of a context
  pub next_stops : {U : Type 0} (ts : List code.Lp) (n : ℕ) (t : Lp) (w : Class) (h i : Result U Stop) (e : Stop) → n ≡ length ts → w ≡ Class.of Lp.sort →
      Tells (λ _. tt) (found_as sigma limit 64 ts n w t) h → InPart n h i → i ≡ Err e → Stopped (context_type_found sigma limit ts t) e
  next_stops {U} ts n t w h i e d k v p q =
      part_stops (λ (u : U). tt) (length ts) (found_as sigma limit 64 ts (length ts) (Class.of Lp.sort) t) h i e
      (subst (λ c. Tells (λ (u : U). tt) (found_as sigma limit 64 ts (length ts) c t) h) k (subst (λ m. Tells (λ (u : U). tt) (found_as sigma limit 64 ts m w t) h) d v))
      (subst (λ m. InPart m h i) d p) q

  pub next_ends : {U : Type 0} (ts : List code.Lp) (n : ℕ) (t : Lp) (w : Class) (h i : Result U Stop) (o : U) → n ≡ length ts → w ≡ Class.of Lp.sort →
      Tells (λ _. tt) (found_as sigma limit 64 ts n w t) h → InPart n h i → i ≡ Ok o → context_type_found sigma limit ts t ≡ Found.gives tt
  next_ends {U} ts n t w h i o d k v p q =
      part_gives (λ (u : U). tt) (length ts) (found_as sigma limit 64 ts (length ts) (Class.of Lp.sort) t) h i o
      (subst (λ c. Tells (λ (u : U). tt) (found_as sigma limit 64 ts (length ts) c t) h) k (subst (λ m. Tells (λ (u : U). tt) (found_as sigma limit 64 ts m w t) h) d v))
      (subst (λ m. InPart m h i) d p) q

  -- a context, the types of which are added one after the other
  abbrev pub context_left : List code.Lp → List code.Lp → Found (Unit {0})
  context_left ts cs = check_context sigma limit (terms_of cs) (length ts) (variables (length ts) (length ts)) (context_of ts)

  added_context : (t : Lp) (ts more : List code.Lp) → IsTypeAdded t ts more → context_of more ≡ Context.bind (length ts) (instance_at 0 (variables (length ts) (length ts)) t) (context_of ts)
  added_context t ts more a =
      ap context_of a.1 ∙ context_push ts a.0
      ∙ ap₂ (λ k x. Context.bind k x (context_of ts)) (depth_context ts) a.2

  pub added_length : (t : Lp) (ts more : List code.Lp) → IsTypeAdded t ts more → length more ≡ suc (length ts)
  added_length t ts more a = ap length a.1 ∙ length_push ts a.0

  pub context_next_stops : (ts cs : List code.Lp) (c : code.Lp) (e : Stop) → Stopped (context_type_found sigma limit ts (term_of c)) e → Stopped (context_left ts (c ∷ cs)) e
  context_next_stops ts cs c e h = stopped_then (context_type_found sigma limit ts (term_of c)) _ e h

  pub context_next : (ts more cs : List code.Lp) (c : code.Lp) → context_type_found sigma limit ts (term_of c) ≡ Found.gives tt → IsTypeAdded (term_of c) ts more → context_left more cs ≡ context_left ts (c ∷ cs)
  context_next ts more cs c h a =
      ap₂ (λ k g. check_context sigma limit (terms_of cs) k (variables k k) g) (added_length (term_of c) ts more a) (added_context (term_of c) ts more a)
      ∙ sym (ap (λ m. and_then m (λ _. check_context sigma limit (terms_of cs) (suc (length ts)) (Lp.free (length ts) ∷ variables (length ts) (length ts))
      (Context.bind (length ts) (instance_at 0 (variables (length ts) (length ts)) (term_of c)) (context_of ts)))) h)

  pub rule_next : (ts more cs : List code.Lp) (c : code.Lp) → IsTypeAdded (term_of c) ts more → rule_left more cs ≡ rule_left ts (c ∷ cs)
  rule_next ts more cs c a = ap₂ (λ k g. rule_context (terms_of cs) k (variables k k) g) (added_length (term_of c) ts more a) (added_context (term_of c) ts more a)
