-- Lists of types, one element further.
use Rattle.std.proofs.Common.{◌≡◌, ℕ, zero, suc, ◌+◌, ◌-◌, ◌<◌, ◌≤◌, ◌==◌, false, List, [], ◌∷◌, ◌++◌, length, get_or, take, refl, ap, arith, add-one}
use Rattle.std.proofs.lemmas.List.{take_more}
use Rattle.std.proofs.lemmas.Bool.{ne_eqb}
use Rattle.tff_typing.proofs.Walks.{how_many_types}
use Rattle.zm_logic.specs.Tree as tree
use Rattle.zm_logic.specs.Tree.{Tys}
use Rattle.zm_logic.specs.Typing.{how_many, individual}
use Rattle.tff_typing.specs.Table.{individuals_of}
use Rattle.zm_logic.specs.declared.tree.Ty.{Ty}
use Rattle.zm_logic.specs.View.{type_tree, types_tree}
use Rattle.zm_logic.proofs.Opened.{itself}
use Rattle.zm_logic.proofs.Lists.{with_type, types_tree_push}
use Rattle.tff_typing.specs.Fault.{shown_type, shown_types}
use Rattle.tff_typing.specs.Statements.{indexed, all_indexed}
use Rattle.tff_typing.specs.Indexed.{picked, filled, all_filled}

pub all_indexed_push : (k : ℕ) (ts : Tys) (t : tree.Ty)
    → all_indexed k (with_type ts t) ≡ with_type (all_indexed k ts) (indexed k t)
all_indexed_push k Tys.none t = refl
all_indexed_push k (Tys.more u us) t = ap (Tys.more (indexed k u)) (all_indexed_push k us t)

pub indexed_step : (k : ℕ) (ts : List Ty) (i : ℕ) (d : Ty) (us : List Ty) (u : Ty) → i < length ts → d ≡ get_or ts i d
    → types_tree us ≡ all_indexed k (types_tree (take i ts)) → type_tree u ≡ indexed k (type_tree d)
    → types_tree (us ++ u ∷ []) ≡ all_indexed k (types_tree (take (i + 1) ts))
indexed_step k ts i d us u l g h e =
    rw (
      take_more ts i d l,
      ← g,
      types_tree_push (take i ts) d,
      all_indexed_push k (types_tree (take i ts)) (type_tree d),
      types_tree_push us u,
      h,
      e,
    ) refl

shown_push : (ts : Tys) (t : tree.Ty) → shown_types (with_type ts t) ≡ with_type (shown_types ts) (shown_type t)
shown_push Tys.none t = refl
shown_push (Tys.more u us) t = ap (Tys.more (shown_type u)) (shown_push us t)

pub shown_step : (ts : List Ty) (i : ℕ) (d : Ty) (us : List Ty) (u : Ty) → i < length ts → d ≡ get_or ts i d
    → types_tree us ≡ shown_types (types_tree (take i ts)) → type_tree u ≡ shown_type (type_tree d)
    → types_tree (us ++ u ∷ []) ≡ shown_types (types_tree (take (i + 1) ts))
shown_step ts i d us u l g h e =
    rw (
      take_more ts i d l,
      ← g,
      types_tree_push (take i ts) d,
      shown_push (types_tree (take i ts)) (type_tree d),
      types_tree_push us u,
      h,
      e,
    ) refl

filled_push : (ps ts : Tys) (t : tree.Ty) → all_filled ps (with_type ts t) ≡ with_type (all_filled ps ts) (filled ps t)
filled_push ps Tys.none t = refl
filled_push ps (Tys.more u us) t = ap (Tys.more (filled ps u)) (filled_push ps us t)

pub filled_step : (ps : Tys) (ts : List Ty) (i : ℕ) (d : Ty) (us : List Ty) (u : Ty) → i < length ts → d ≡ get_or ts i d
    → types_tree us ≡ all_filled ps (types_tree (take i ts)) → type_tree u ≡ filled ps (type_tree d)
    → types_tree (us ++ u ∷ []) ≡ all_filled ps (types_tree (take (i + 1) ts))
filled_step ps ts i d us u l g h e =
    rw (
      take_more ts i d l,
      ← g,
      types_tree_push (take i ts) d,
      filled_push ps (types_tree (take i ts)) (type_tree d),
      types_tree_push us u,
      h,
      e,
    ) refl

pub picked_past : (ts : List Ty) (i : ℕ) → length ts ≤ i → tree.Ty.bound i ≡ picked (types_tree ts) i
picked_past [] i l = refl
picked_past (t ∷ ts) i l =
    let e : (i == how_many (types_tree ts))
    ≡ false = ne_eqb i (how_many (types_tree ts)) (λ j. (let h = how_many_types ts in omega arith)) in
    rw e (picked_past ts i (omega arith))

pub picked_here : (ts : List Ty) (i j : ℕ) (d : Ty) → i < length ts → j ≡ length ts - 1 - i → d ≡ get_or ts j d
    → picked (types_tree ts) i ≡ type_tree d
picked_here [] i j d l e g = absurd (omega arith)
picked_here (t ∷ ts) i zero d l e g =
    let h : i ≡ how_many (types_tree ts) = omega (arith, how_many_types ts) in
    rw (h, itself (how_many (types_tree ts)), g) refl
picked_here (t ∷ ts) i (suc j) d l e g =
    let b : (i == how_many (types_tree ts))
    ≡ false = ne_eqb i (how_many (types_tree ts)) (λ q. (let h = how_many_types ts in omega arith)) in
    rw b (picked_here ts i j d (omega arith) (omega arith) g)

individuals_push : (n : ℕ) → with_type (individuals_of n) individual ≡ individuals_of (suc n)
individuals_push zero = refl
individuals_push (suc n) = ap (Tys.more individual) (individuals_push n)

pub individuals_step : (us : List Ty) (u : Ty) (n : ℕ) → types_tree us ≡ individuals_of n → type_tree u ≡ individual
    → types_tree (us ++ u ∷ []) ≡ individuals_of (n + 1)
individuals_step us u n h e = rw (add-one, types_tree_push us u, h, e) (individuals_push n)
