-- A walk through a type gives way to its parts.
use Rattle.std.proofs.Common.{ℕ, ◌≡◌, ◌≢◌, ◌+◌, ◌<◌, List, [], ◌∷◌, ◌++◌, length, take, get_or, nat_eq, cond, true, inl, inr, append_assoc, append-nil, refl, ap, sym, subst, ◌∙◌, arith}
use Rattle.std.proofs.lemmas.List.{take_more}
use Rattle.std.proofs.lemmas.Bool.Decides.{eqb_tells}
use Rattle.indexmap.specs.IndexSet.{IndexSet, contains}
use Rattle.zm_logic.specs.Tree.{Ty, Tys}
use Rattle.term_store.specs.Node.{types_at, TypesBelow}
use Rattle.term_store.specs.Trees.{Tables, all_trees, HasType, type_of}
use Rattle.term_store.specs.declared.ids.TyId.{TyId}
use Rattle.unify.specs.Binding.{Binding, solved_type, head_type}
use Rattle.unify.specs.Unification.{LacksTypeMeta, LackTypeMeta}
use Rattle.unify.specs.Lawful.{AreLawful}
use Rattle.unify.specs.Weight.{type_weight, types_weight}
use Rattle.unify.specs.Pending.{Each, AllAsked, IsMarked}
use Rattle.unify.specs.Occurs.{IfFound, LackTypes, TypeLacks, AsksType, GivesType, HasTyVisit, types_load, entered_types, EntersType}
use Rattle.unify.specs.declared.ty_occurs.TyVisit.{TyVisit}
use Rattle.unify.specs.declared.ty_occurs.TyVisit.TheVariants.{Enter, Leave}
use Rattle.unify.proofs.HeadSteps.{id_of}
use Rattle.unify.proofs.Waiting.{each_first, each_last, each_both, asked_first, asked_last, asked_both, marked_last, marked_swap}
use Rattle.unify.proofs.Solved.{solved_types, solved_con, solved_more, unbound_type, head_solved_type, head_unbound_type}
use Rattle.unify.proofs.Total.{solved_bound, solved_param, solved_none}
use Rattle.unify.proofs.End.{type_heavy}

pub entered_push : (is : List TyId) (i : TyId) → entered_types (is ++ i ∷ []) ≡ entered_types is ++ (Enter i ∷ [])
entered_push [] i = refl
entered_push (j ∷ is) i = ap (λ vs. Enter j ∷ vs) (entered_push is i)

pub entered_more : (is : List TyId) (n : ℕ) (d : TyId) → n < length is → entered_types (take (n + 1) is) ≡ entered_types (take n is) ++ (Enter (get_or is n d) ∷ [])
entered_more is n d l = rw (take_more is n d l) (entered_push (take n is) (get_or is n d))

module _ (s : Tables) (bs : List Binding) where
  abbrev parts : List TyId → Tys
  parts is = types_at (all_trees s).types is

  parts_load : (is : List TyId) → types_load s bs (entered_types is) ≡ types_weight (solved_types bs (parts is)) + types_weight (solved_types bs (parts is))
  parts_load [] = let e = ap types_weight (solved_none bs) in omega (arith, e)
  parts_load (i ∷ is) = let e = ap types_weight (solved_more bs (type_of s i) (parts is)) in omega (arith, e, parts_load is)

  parts_have : (is : List TyId) → TypesBelow (length s.types) is → Each (HasTyVisit s bs) (entered_types is)
  parts_have [] h = tt
  parts_have (i ∷ is) h = (h.0, parts_have is h.1)

  module _ (m : ℕ) where
    parts_back : (is : List TyId) → AllAsked (AsksType s bs m) (GivesType s bs m) tt (entered_types is) → LackTypeMeta m (solved_types bs (parts is))
    parts_back [] h = subst (LackTypeMeta m) (sym (solved_none bs)) tt
    parts_back (i ∷ is) h = subst (LackTypeMeta m) (sym (solved_more bs (type_of s i) (parts is))) (h.0, parts_back is h.1)

    parts_forth : (is : List TyId) → LackTypeMeta m (solved_types bs (parts is)) → AllAsked (AsksType s bs m) (GivesType s bs m) tt (entered_types is)
    parts_forth [] h = tt
    parts_forth (i ∷ is) h = let z = subst (LackTypeMeta m) (solved_more bs (type_of s i) (parts is)) h in (z.0, parts_forth is z.1)

    parts_marked : (is : List TyId) → IsMarked (AsksType s bs m) (GivesType s bs m) (entered_types is)
    parts_marked [] = tt
    parts_marked (i ∷ is) = (λ a h. tt, parts_marked is)

    -- nothing is left of a type that lacks it
    pub lacking : (i : TyId) (old : List TyVisit) → TypeLacks s bs m i → EntersType s bs m i old old
    lacking i old h = record {
      more = [];
      grown = sym (append-nil old);
      back = λ z. h;
      forth = λ z. tt;
      marked = tt;
      has = tt;
      lighter = omega (arith, type_heavy (solved_type bs (type_of s i)));
    }

    module _ (l : AreLawful bs) (i h : TyId) (e : type_of s h ≡ head_type bs (type_of s i)) where
      head_is : solved_type bs (type_of s h) ≡ solved_type bs (type_of s i)
      head_is = ap (solved_type bs) e ∙ head_solved_type bs l (type_of s i)

      pub lacking_head : TypeLacks s bs m h → TypeLacks s bs m i
      lacking_head z = subst (LacksTypeMeta m) head_is z

      pub bound_lacks : (n : ℕ) → type_of s h ≡ Ty.bound n → TypeLacks s bs m i
      bound_lacks n f = lacking_head (subst (LacksTypeMeta m) (sym (ap (solved_type bs) f ∙ solved_bound bs n)) tt)

      pub param_lacks : (n : ℕ) → type_of s h ≡ Ty.param n → TypeLacks s bs m i
      param_lacks n f = lacking_head (subst (LacksTypeMeta m) (sym (ap (solved_type bs) f ∙ solved_param bs n)) tt)

      meta_is : (n : ℕ) → type_of s h ≡ Ty.meta n → Ty.meta n ≡ solved_type bs (type_of s i)
      meta_is n f = sym (ap (solved_type bs) f ∙ unbound_type bs n (head_unbound_type bs l (type_of s i) n (sym e ∙ f))) ∙ head_is

      pub other_lacks : (n : ℕ) → type_of s h ≡ Ty.meta n → n ≢ m → TypeLacks s bs m i
      other_lacks n f d = subst (LacksTypeMeta m) (meta_is n f) d

      pub itself_is_held : (n : ℕ) → type_of s h ≡ Ty.meta n → n ≡ m → TypeLacks s bs m i → ⊥
      itself_is_held n f d z = subst (LacksTypeMeta m) (sym (meta_is n f)) z d

      pub meta_enters : (n : ℕ) (old : List TyVisit) → type_of s h ≡ Ty.meta n
          → IfFound (TypeLacks s bs m i → ⊥) (EntersType s bs m i old old) (nat_eq n m)
      meta_enters n old f =
          elim (eqb_tells n m) [ inl x ↦ rw x.0 (itself_is_held n f x.1) | inr x ↦ rw x.0 (lacking i old (other_lacks n f x.1)) ]

      -- a constructor gives way to its arguments
      pub con_enters : (c : ℕ) (is : List TyId) (old new : List TyVisit) → HasType s h → TypesBelow (length s.types) is
          → type_of s h ≡ Ty.con c (parts is) → new ≡ old ++ (Leave h ∷ entered_types is) → EntersType s bs m i old new
      con_enters c is old new a b f g =
          let f' = ap (solved_type bs) f ∙ solved_con bs c (parts is) in
          let w = ap type_weight f' in
          let v = ap type_weight head_is in
          record {
            more = Leave h ∷ entered_types is;
            grown = g;
            back = λ z. lacking_head (subst (LacksTypeMeta m) (sym f') (parts_back is z.1));
            forth = λ z. (tt, parts_forth is (subst (LacksTypeMeta m) f' (subst (LacksTypeMeta m) (sym head_is) z)));
            marked = (λ a z. subst (LacksTypeMeta m) (sym f') (parts_back is z), parts_marked is);
            has = (a, parts_have is b);
            lighter = omega (arith, parts_load is, w, v);
          }

-- loads add up
types_load_more : (s : Tables) (bs : List Binding) (xs ys : List TyVisit) → types_load s bs (xs ++ ys) ≡ types_load s bs xs + types_load s bs ys
types_load_more s bs [] ys = omega arith
types_load_more s bs (Enter i ∷ xs) ys = omega (arith, types_load_more s bs xs ys)
types_load_more s bs (Leave i ∷ xs) ys = omega (arith, types_load_more s bs xs ys)

-- a walk through a type, in search of a metavariable
module _ (s : Tables) (bs : List Binding) (m : ℕ) (within : TyId) where
  pub record Walks (path : List TyVisit) : Type 0 where
    pub has : Each (HasTyVisit s bs) path
    pub marked : IsMarked (AsksType s bs m) (GivesType s bs m) path
    pub back : AllAsked (AsksType s bs m) (GivesType s bs m) tt path → TypeLacks s bs m within
    pub forth : TypeLacks s bs m within → AllAsked (AsksType s bs m) (GivesType s bs m) tt path

  pub walk_starts : (path : List TyVisit) → path ≡ Enter within ∷ [] → HasType s within → Walks path
  walk_starts path e h =
      subst Walks (sym e) (record { has = (h, tt); marked = ((λ a z. tt), tt); back = λ z. z.0; forth = λ z. (z, tt) })

  pub walk_done : (path : List TyVisit) → path ≡ [] → Walks path → TypeLacks s bs m within
  walk_done path e w = (subst Walks e w).back tt

  module _ (path rest : List TyVisit) (i : TyId) where
    pub walk_found : path ≡ rest ++ (Enter i ∷ []) → Walks path → (TypeLacks s bs m i → ⊥) → TypeLacks s bs m within → ⊥
    walk_found e w f z =
        f (asked_last (AsksType s bs m) (GivesType s bs m) tt rest (Enter i ∷ []) ((subst Walks e w).forth z)).0

    pub walk_has : path ≡ rest ++ (Enter i ∷ []) → Walks path → HasType s i
    walk_has e w = (each_last (HasTyVisit s bs) rest (Enter i ∷ []) (subst Walks e w).has).0

    pub walk_enters : (new : List TyVisit) → path ≡ rest ++ (Enter i ∷ []) → Walks path → EntersType s bs m i rest new → Walks new
    walk_enters new e w n =
        let v = subst Walks e w in
        let A = AsksType s bs m in let G = GivesType s bs m in
        let one : List TyVisit = Enter i ∷ [] in
        subst Walks (sym n.grown)
        (record {
          has = each_both (HasTyVisit s bs) rest n.more (each_first (HasTyVisit s bs) rest one v.has) n.has;
          marked = marked_swap A G one n.more (λ a z. (n.back z, tt)) n.marked rest v.marked;
          back = λ z. v.back (asked_both A G tt rest one (asked_first A G tt rest n.more z) (n.back (asked_last A G tt rest n.more z), tt));
          forth = λ z. let h = v.forth z in asked_both A G tt rest n.more (asked_first A G tt rest one h) (n.forth (asked_last A G tt rest one h).0);
        })

    pub enters_lighter : (new : List TyVisit) → path ≡ rest ++ (Enter i ∷ []) → EntersType s bs m i rest new → types_load s bs new < types_load s bs path
    enters_lighter new e n =
        let f = ap (types_load s bs) e in let g = ap (types_load s bs) n.grown in
        omega (arith, f, g, n.lighter, types_load_more s bs rest n.more, types_load_more s bs rest (Enter i ∷ []))

    pub walk_leaves : path ≡ rest ++ (Leave i ∷ []) → Walks path → Walks rest
    walk_leaves e w =
        let v = subst Walks e w in
        let A = AsksType s bs m in let G = GivesType s bs m in
        let one : List TyVisit = Leave i ∷ [] in
        record {
          has = each_first (HasTyVisit s bs) rest one v.has;
          marked = subst (IsMarked A G) (append-nil rest) (marked_swap A G one [] (λ a z. (tt, tt)) tt rest v.marked);
          back = λ z. v.back (asked_both A G tt rest one z (tt, tt));
          forth = λ z. asked_first A G tt rest one (v.forth z);
        }

    pub left_lacks : path ≡ rest ++ (Leave i ∷ []) → Walks path → HasType s i × TypeLacks s bs m i
    left_lacks e w =
        let v = subst Walks e w in
        ((each_last (HasTyVisit s bs) rest (Leave i ∷ []) v.has).0, (marked_last (AsksType s bs m) (GivesType s bs m) rest (Leave i ∷ []) v.marked).0 tt tt)

    pub leaves_lighter : path ≡ rest ++ (Leave i ∷ []) → types_load s bs rest < types_load s bs path
    leaves_lighter e = let f = ap (types_load s bs) e in omega (arith, f, types_load_more s bs rest (Leave i ∷ []))

-- one more type that lacks it
pub known_more : {S : Type 0} (s : Tables) (bs : List Binding) (m : ℕ) (known more : IndexSet TyId S) (z : TyId)
    → ((q : TyId) → contains (λ x y. nat_eq x.0 y.0) more q ≡ cond (nat_eq z.0 q.0) true (contains (λ x y. nat_eq x.0 y.0) known q))
    → LackTypes s bs m known → HasType s z × TypeLacks s bs m z → LackTypes s bs m more
known_more s bs m known more z u l p i h =
    elim (eqb_tells z.0 i.0) [
      | inl x ↦ (let e : z ≡ i = ap (λ (n : ℕ). id_of n) x.1 in subst (λ j. HasType s j × TypeLacks s bs m j) e p)
      | inr x ↦ (let f = u i ∙ ap (λ b. cond b true (contains (λ x y. nat_eq x.0 y.0) known i)) x.0 in l i (sym f ∙ h))
    ]

pub entered_next : (old now new : List TyVisit) (ids : List TyId) (n : ℕ) (d : TyId) → n < length ids
    → now ≡ old ++ entered_types (take n ids) → new ≡ now ++ (Enter (get_or ids n d) ∷ []) → new ≡ old ++ entered_types (take (n + 1) ids)
entered_next old now new ids n d l e f =
    let one : List TyVisit = Enter (get_or ids n d) ∷ [] in
    f ∙ ap (λ xs. xs ++ one) e ∙ append_assoc old (entered_types (take n ids)) one ∙ ap (λ xs. old ++ xs) (sym (entered_more ids n d l))

pub grown_by : (old mid new more : List TyVisit) (v : TyVisit) → mid ≡ old ++ (v ∷ []) → new ≡ mid ++ more → new ≡ old ++ (v ∷ more)
grown_by old mid new more v e f = f ∙ ap (λ xs. xs ++ more) e ∙ append_assoc old (v ∷ []) more
