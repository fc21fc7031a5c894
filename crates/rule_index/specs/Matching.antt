-- Matching: the parts at which a left side is a given place, and the first rule that fits.
use Rattle.std.specs.Prelude.{ℕ, ◌+◌, ◌-◌, ◌==◌, Bool, true, false, ◌&&◌, if◌then◌else◌, ◌≤◌, List, [], ◌∷◌, length, Option, Some, None}
use Rattle.zm_logic.specs.Tree.{Ty, Tys, Term, Terms, Form, Binder, Opening, Side, Rule}
use Rattle.zm_logic.specs.Index.{type_has, types_have, term_has, form_has}
use Rattle.rule_index.specs.Instance.{same_side}
use Rattle.rule_index.specs.Instance.{put}

-- lifting undone
abbrev mutual
  pub lower_type : ℕ → Ty → Ty
  lower_type d (Ty.bound i) = Ty.bound (i - d)
  lower_type d (Ty.param n) = Ty.param n
  lower_type d (Ty.meta n) = Ty.meta n
  lower_type d (Ty.con c ts) = Ty.con c (lower_types d ts)

  pub lower_types : ℕ → Tys → Tys
  lower_types d Tys.none = Tys.none
  lower_types d (Tys.more t ts) = Tys.more (lower_type d t) (lower_types d ts)

abbrev mutual
  pub lower_term : ℕ → Term → Term
  lower_term d (Term.bound i) = Term.bound (i - d)
  lower_term d (Term.eps n t) = Term.eps n (lower_type d t)
  lower_term d (Term.meta n t) = Term.meta n (lower_type d t)
  lower_term d (Term.app f ts us) = Term.app f (lower_types d ts) (lower_terms d us)

  pub lower_terms : ℕ → Terms → Terms
  lower_terms d Terms.none = Terms.none
  lower_terms d (Terms.more u us) = Terms.more (lower_term d u) (lower_terms d us)

-- where nothing is found
abbrev pub nothing : Opening
nothing = Opening.of_type (Ty.bound 0)

-- what stands in the second tree where the first one has the binder i first; d binders of the side are round both
abbrev mutual
  pub find_in_type : ℕ → ℕ → Ty → Ty → Opening
  find_in_type d i (Ty.bound j) x = Opening.of_type (lower_type d x)
  find_in_type d i (Ty.con c ts) (Ty.con e xs) = find_in_types d i ts xs
  find_in_type d i _ x = nothing

  pub find_in_types : ℕ → ℕ → Tys → Tys → Opening
  find_in_types d i (Tys.more t ts) (Tys.more x xs) = if type_has (i + d) t then find_in_type d i t x else find_in_types d i ts xs
  find_in_types d i _ xs = nothing

abbrev mutual
  pub find_in_term : ℕ → ℕ → Term → Term → Opening
  find_in_term d i (Term.bound j) x = Opening.of_term (lower_term d x)
  find_in_term d i (Term.eps n t) (Term.eps m x) = find_in_type d i t x
  find_in_term d i (Term.meta n t) (Term.meta m x) = find_in_type d i t x
  find_in_term d i (Term.app f ts us) (Term.app g xs ys) =
      if types_have (i + d) ts then find_in_types d i ts xs else find_in_terms d i us ys
  find_in_term d i _ x = nothing

  pub find_in_terms : ℕ → ℕ → Terms → Terms → Opening
  find_in_terms d i (Terms.more u us) (Terms.more x xs) = if term_has (i + d) u then find_in_term d i u x else find_in_terms d i us xs
  find_in_terms d i _ xs = nothing

abbrev pub find_in_form : ℕ → ℕ → Form → Form → Opening
find_in_form d i (Form.atom p ts us) (Form.atom q xs ys) =
    if types_have (i + d) ts then find_in_types d i ts xs else find_in_terms d i us ys
find_in_form d i (Form.equal t a b) (Form.equal x y z) =
    if type_has (i + d) t then find_in_type d i t x else if term_has (i + d) a then find_in_term d i a y else find_in_term d i b z
find_in_form d i (Form.negation f) (Form.negation x) = find_in_form d i f x
find_in_form d i (Form.binary c f g) (Form.binary e x y) = if form_has (i + d) f then find_in_form d i f x else find_in_form d i g y
find_in_form d i (Form.quantified q t f) (Form.quantified r x y) =
    if type_has (i + d) t then find_in_type d i t x else find_in_form (d + 1) i f y
find_in_form d i (Form.quantified_types q f) (Form.quantified_types r x) = find_in_form (d + 1) i f x
find_in_form d i _ x = nothing

abbrev pub find : ℕ → Side → Side → Opening
find i (Side.of_term a) (Side.of_term x) = find_in_term 0 i a x
find i (Side.of_form f) (Side.of_form x) = find_in_form 0 i f x
find i _ x = nothing

abbrev pub find_all : List Binder → Side → Side → List Opening
find_all [] left x = []
find_all (b ∷ bs) left x = find (length bs) left x ∷ find_all bs left x

-- a part of each binder, of its kind
abbrev pub is_of : Opening → Binder → Bool
is_of (Opening.of_type t) Binder.of_type = true
is_of (Opening.of_term u) (Binder.of_term t) = true
is_of _ _ = false

abbrev pub are_of : List Opening → List Binder → Bool
are_of [] [] = true
are_of (o ∷ os) (b ∷ bs) = is_of o b && are_of os bs
are_of _ _ = false

-- the parts at which the left side is x
abbrev pub match_side : List Binder → Side → Side → Option (List Opening)
match_side bs left x =
    if are_of (find_all bs left x) bs && same_side (put (find_all bs left x) left) x then Some (find_all bs left x) else None

abbrev pub put_some : Side → Option (List Opening) → Option Side
put_some right None = None
put_some right (Some os) = Some (put os right)

-- what a rule makes of x
abbrev pub rewrite : Rule → Side → Option Side
rewrite r x = put_some r.right (match_side r.binders r.left x)

-- the first answer of two
abbrev pub or_else : {A : Type 0} → Option A → Option A → Option A
or_else (Some a) later = Some a
or_else None later = later

-- what the first rule that fits makes of x
abbrev pub first_rewrite : List Rule → Side → Option Side
first_rewrite [] x = None
first_rewrite (r ∷ rules) x = or_else (rewrite r x) (first_rewrite rules x)

-- the number of a rule that fits, and the parts that its binders stand for
pub record Fitting : Type 0 where
  pub rule : ℕ
  pub parts : List Opening

abbrev pub as_first : Option (List Opening) → Option Fitting
as_first None = None
as_first (Some os) = Some (record { rule = 0; parts = os })

abbrev pub as_later : Option Fitting → Option Fitting
as_later None = None
as_later (Some m) = Some (record { rule = m.rule + 1; parts = m.parts })

-- the least number of a rule that fits x, with the parts
abbrev pub first_match : List Rule → Side → Option Fitting
first_match [] x = None
first_match (r ∷ rules) x = or_else (as_first (match_side r.binders r.left x)) (as_later (first_match rules x))

-- the kind of the binder of an index: the last binder is that of 0
abbrev pub binder_at : List Binder → ℕ → Option Binder
binder_at [] i = None
binder_at (b ∷ bs) i = if i == length bs then Some b else binder_at bs i

abbrev pub IsTypeBinder : Option Binder → Type 0
IsTypeBinder (Some Binder.of_type) = Unit {0}
IsTypeBinder _ = ⊥

abbrev pub IsTermBinder : Option Binder → Type 0
IsTermBinder (Some (Binder.of_term t)) = Unit {0}
IsTermBinder _ = ⊥

-- under d binders of its side, each index past them is that of a binder of its kind
module _ (bs : List Binder) where
  abbrev mutual
    pub IsKindedType : ℕ → Ty → Type 0
    IsKindedType d (Ty.bound i) = d ≤ i → IsTypeBinder (binder_at bs (i - d))
    IsKindedType d (Ty.param n) = Unit {0}
    IsKindedType d (Ty.meta n) = Unit {0}
    IsKindedType d (Ty.con c ts) = AreKindedTypes d ts

    pub AreKindedTypes : ℕ → Tys → Type 0
    AreKindedTypes d Tys.none = Unit {0}
    AreKindedTypes d (Tys.more t ts) = IsKindedType d t × AreKindedTypes d ts

  abbrev mutual
    pub IsKindedTerm : ℕ → Term → Type 0
    IsKindedTerm d (Term.bound i) = d ≤ i → IsTermBinder (binder_at bs (i - d))
    IsKindedTerm d (Term.eps n t) = IsKindedType d t
    IsKindedTerm d (Term.meta n t) = IsKindedType d t
    IsKindedTerm d (Term.app f ts us) = AreKindedTypes d ts × AreKindedTerms d us

    pub AreKindedTerms : ℕ → Terms → Type 0
    AreKindedTerms d Terms.none = Unit {0}
    AreKindedTerms d (Terms.more u us) = IsKindedTerm d u × AreKindedTerms d us

  abbrev pub IsKindedForm : ℕ → Form → Type 0
  IsKindedForm d Form.truth = Unit {0}
  IsKindedForm d Form.falsity = Unit {0}
  IsKindedForm d (Form.atom p ts us) = AreKindedTypes d ts × AreKindedTerms d us
  IsKindedForm d (Form.equal t a b) = IsKindedType d t × IsKindedTerm d a × IsKindedTerm d b
  IsKindedForm d (Form.negation f) = IsKindedForm d f
  IsKindedForm d (Form.binary c f g) = IsKindedForm d f × IsKindedForm d g
  IsKindedForm d (Form.quantified q t f) = IsKindedType d t × IsKindedForm (d + 1) f
  IsKindedForm d (Form.quantified_types q f) = IsKindedForm (d + 1) f

  abbrev pub IsKinded : Side → Type 0
  IsKinded (Side.of_term a) = IsKindedTerm 0 a
  IsKinded (Side.of_form f) = IsKindedForm 0 f
