-- The bindings of the answer so far, and the first that is too deep.
use Rattle.std.proofs.Common.{ℕ, ◌≡◌, ◌+◌, ◌<◌, ◌≤◌, List, [], ◌∷◌, ◌++◌, All, map, reverse, length, get_or, take, drop, nat_eq, Option, Some, None, Result, Ok, Err, IfOk, IfNone, refl, ap, sym, subst, ◌∙◌, drop-cons, add-one, arith}
use Rattle.std.proofs.lemmas.List.{take_more, take_all, take-append-drop, map-append}
use Rattle.std.proofs.lemmas.List.Elements.{All-push, All-head, All-tail}
use Rattle.std.specs.Map.{lookup}
use Rattle.term_store.specs.Trees.{Tables, HasTerm, term_of, Extends}
use Rattle.term_store.specs.declared.ids.TermId.{TermId}
use Rattle.term_store.proofs.Kept.{extends_itself, extends_more, still_type, still_term, kept_type, kept_term}
use Rattle.unify.specs.Binding as trees
use Rattle.unify.specs.View.{HasBinding, binding_of, latest}
use Rattle.unify.specs.Answer.{solved_binding, solved_depth, name_of, HasIds, IsAnswer, IsTooDeep, IfDeepAt}
use Rattle.unify.specs.Solving.{KnowsSolved}
use Rattle.unify.specs.declared.solving.Solved.{Solved}
use Rattle.unify.specs.declared.binding.MguFault.{MguFault}
use Rattle.unify.specs.declared.binding.MguFault.TheVariants as faults
use Rattle.term_store.specs.declared.ids.TyId.{TyId}
use Rattle.unify.specs.declared.binding.Binding.{Binding}
use Rattle.unify.specs.declared.binding.Binding.TheVariants.{OfTerm, OfType}
use Rattle.unify.proofs.Building.{same_binding, latest_kept}
use Rattle.unify.proofs.Finish.{in_order}

module _ (s t : Tables) (x : Extends s t) where
  pub ids_kept : (b : Binding) → HasIds s b → HasIds t b
  ids_kept (OfTerm m k u) h = (still_type s t x k h.0, still_term s t x u h.1)
  ids_kept (OfType m k) h = still_type s t x k h

  pub same_ids : (b : Binding) → HasIds s b → binding_of t b ≡ binding_of s b
  same_ids (OfTerm m k u) h = let e = kept_type s t x k h.0 in let f = kept_term s t x u h.1 in cc
  same_ids (OfType m k) h = ap (trees.Binding.of_type m) (kept_type s t x k h)

  all_ids_kept : (bs : List Binding) → All (HasIds s) bs → All (HasIds t) bs
  all_ids_kept bs h = λ k d l. ids_kept _ (h k d l)

  all_same : (bs : List Binding) → All (HasIds s) bs → map (binding_of t) bs ≡ map (binding_of s) bs
  all_same [] h = refl
  all_same (b ∷ bs) h =
      ap (λ c. c ∷ map (binding_of t) bs) (same_ids b (All-head (HasIds s) b bs h)) ∙ ap (λ cs. binding_of s b ∷ cs) (all_same bs (All-tail (HasIds s) b bs h))

module _ (s : Tables) (made : List Binding) where
  -- the bindings before the index, as they were made
  abbrev first : ℕ → List trees.Binding
  first n = map (binding_of s) (take n made)

  first_more : (n : ℕ) (d : Binding) → n < length made → first (n + 1) ≡ first n ++ (binding_of s (get_or made n d) ∷ [])
  first_more n d l = ap (map (binding_of s)) (take_more made n d l) ∙ map-append (binding_of s) (take n made) (get_or made n d ∷ [])

  pub record Listed (t : Tables) (n : ℕ) (all : List Binding) : Type 0 where
    pub has : All (HasIds t) all
    pub solved : map (binding_of t) all ≡ map (solved_binding (latest s made)) (first n)
    pub bounded : All (λ b. solved_depth (latest s made) b ≤ 2000) (first n)
    pub kept : Extends s t

  pub listed_none : (all : List Binding) → all ≡ [] → Listed s 0 all
  listed_none all e =
      subst (Listed s 0) (sym e)
      (record { has = λ k d l. absurd (omega (arith, l)); solved = refl; bounded = λ k d l. absurd (omega (arith, l)); kept = extends_itself s })

module _ (s : Tables) (made : List Binding) (have : All (HasBinding s) made) where
  module _ (t : Tables) (n : ℕ) (all : List Binding) (h : Listed s made t n all) (d : Binding) (l : n < length made) where
    abbrev b : Binding
    b = get_or made n d

    -- the next binding in the later store
    same_next : binding_of t b ≡ binding_of s b
    same_next = same_binding s t h.kept b (have n d l)

    depth_next : solved_depth (latest t made) (binding_of t b) ≡ solved_depth (latest s made) (binding_of s b)
    depth_next = ap (λ bs. solved_depth bs (binding_of t b)) (latest_kept s t h.kept made have) ∙ ap (solved_depth (latest s made)) same_next

    pub listed_more : (u : Tables) → Extends t u → (whole : Binding) → HasIds u whole → binding_of u whole ≡ solved_binding (latest t made) (binding_of t b)
        → solved_depth (latest t made) (binding_of t b) ≤ 2000 → Listed s made u (n + 1) (all ++ whole ∷ [])
    listed_more u x whole has e bound =
        let solved_is = e ∙ ap (λ bs. solved_binding bs (binding_of t b)) (latest_kept s t h.kept made have) ∙ ap (solved_binding (latest s made)) same_next in
        let earlier = all_same t u x all h.has ∙ h.solved in
        let deep = depth_next in
        let bounded = All-push (λ c. solved_depth (latest s made) c ≤ 2000) (first s made n) (binding_of s b) h.bounded (omega (arith, bound, deep)) in
        record {
          has = All-push (HasIds u) all whole (all_ids_kept t u x all h.has) has;
          solved = map-append (binding_of u) all (whole ∷ [])
              ∙ ap (λ cs. cs ++ (binding_of u whole ∷ [])) earlier
              ∙ ap (λ c. map (solved_binding (latest s made)) (first s made n) ++ (c ∷ [])) solved_is
              ∙ sym (ap (map (solved_binding (latest s made))) (first_more s made n d l) ∙ map-append (solved_binding (latest s made)) (first s made n) (binding_of s b ∷ []));
          bounded = subst (All (λ c. solved_depth (latest s made) c ≤ 2000)) (sym (first_more s made n d l)) bounded;
          kept = extends_more s t u h.kept x;
        }

    pub listed_deep : (u : Tables) (at : TermId) → Extends t u → 2000 < solved_depth (latest t made) (binding_of t b) → HasTerm u at → term_of u at ≡ name_of (binding_of t b) → IsTooDeep u (latest s made) at
    listed_deep u at x deep has e =
        let f = depth_next in
        let rest : drop n made ≡ b ∷ drop (n + 1) made = rw add-one (drop-cons made n d l) in
        let g : made ≡ take n made ++ b ∷ drop (n + 1) made = sym (take-append-drop n made) ∙ ap (λ bs. take n made ++ bs) rest in
        record {
          before = first s made n;
          binding = binding_of s b;
          after = map (binding_of s) (drop (n + 1) made);
          order = in_order s made ∙ ap (map (binding_of s)) g ∙ map-append (binding_of s) (take n made) (b ∷ drop (n + 1) made);
          bounded = h.bounded;
          deep = subst (λ z. 2000 < z) f deep;
          has = has;
          named = e ∙ ap name_of same_next;
        }

  pub listed_all : (t : Tables) (n : ℕ) (all : List Binding) → length made ≤ n → Listed s made t n all → IsAnswer t (latest s made) all
  listed_all t n all l h =
      let e : first s made n ≡ reverse (latest s made) = ap (map (binding_of s)) (take_all n made l) ∙ sym (in_order s made) in
      record {
        has = h.has;
        solved = h.solved ∙ ap (map (solved_binding (latest s made))) e;
        bounded = subst (All (λ c. solved_depth (latest s made) c ≤ 2000)) e h.bounded;
      }

-- what a fault names
pub if_deep : (P Q : TermId → Type 0) → ((at : TermId) → P at → Q at) → (fault : MguFault) → IfDeepAt P fault → IfDeepAt Q fault
if_deep P Q to faults.Memory h = tt
if_deep P Q to (faults.Deep at) h = to at h

pub if_none : {X E : Type 0} (P Q : Type 0) → (P → Q) → (answer : Result (Option X) E) → IfOk answer (λ found. IfNone found P) → IfOk answer (λ found. IfNone found Q)
if_none P Q to (Ok None) h = to h
if_none P Q to (Ok (Some x)) h = tt
if_none P Q to (Err e) h = tt

-- nothing is kept at first
pub nothing_kept : (s : Tables) (bs : List trees.Binding) (kept : Solved) → kept.types.entries ≡ [] → kept.terms.entries ≡ [] → KnowsSolved s bs kept
nothing_kept s bs kept e f = record {
  types = λ i r g. (let h = ap (lookup (λ (y : TyId). nat_eq i.0 y.0)) e in absurd (cc));
  terms = λ i r g. (let h = ap (lookup (λ (y : TermId). nat_eq i.0 y.0)) f in absurd (cc));
}
