-- Declarations, one part further.
use Rattle.std.proofs.Common.{◌≡◌, ℕ, zero, suc, ◌+◌, ◌<◌, ◌≤◌, ◌&&◌, bytes_eq, Bool, true, false, if◌then◌else◌, is_some, Option, Some, None, Ok, Err, List, [], ◌∷◌, ◌++◌, map, length, get_or, take, refl, ap, arith, subst, sym, ◌∙◌}
use Rattle.std.proofs.lemmas.List.{take_more}
use Rattle.std.proofs.lemmas.Option.{none-some}
use Rattle.zm_logic.specs.Tree as tree
use Rattle.zm_logic.specs.Tree.{Tys, Sense}
use Rattle.zm_logic.specs.declared.tree.Ty.{Ty}
use Rattle.zm_logic.specs.View.{type_tree, types_tree}
use Rattle.tptp_reader.specs.Raw as raw
use Rattle.tptp_reader.specs.Raw.{RawVariable, RawTypes}
use Rattle.tptp_reader.specs.declared.tree.RawVar.{RawVar}
use Rattle.tptp_reader.specs.declared.tree.RawType.{RawType}
use Rattle.tptp_reader.specs.View.{raw_variable_tree, raw_type_tree, raw_types_tree}
use Rattle.tff_typing.specs.Scope.{Scope}
use Rattle.tff_typing.specs.Table.{Table, Numbered, first_from, declared_as, declared, known}
use Rattle.tff_typing.specs.Fault.{Fault, Outcome, ◌>>=◌}
use Rattle.tff_typing.specs.Places.{type_in}
use Rattle.tff_typing.specs.Statements.{of_kind, type_variables, is_kind, arguments_in, constructor_of, if_new}
use Rattle.tff_typing.specs.Indexed.{with_type, argument_at, with_argument}
use Rattle.tff_typing.specs.declared.scope.Variable.{Variable}
use Rattle.tff_typing.specs.declared.fault.Stop.{Stop}
use Rattle.tff_typing.specs.declared.fault.Stop.TheVariants as stops
use Rattle.tff_typing.specs.View.{Gives, fault_tree, binder_tree, scope_tree}
use Rattle.tff_typing.proofs.Outcomes.{both_ok, ok_same}
use Rattle.tff_typing.proofs.ScopeLists.{scope_push, length_scope}
use Rattle.tff_typing.proofs.RawLists.{with_raw_type, raw_types_push}

-- one more type variable
variables_more : (s : Scope) (vs : List RawVariable) (v : RawVariable) (t : Scope) → type_variables s vs ≡ Ok t
    → type_variables s (vs ++ v ∷ []) ≡ (of_kind v.type >>= λ b. Ok (record { name = v.name; binder = b } ∷ t))
variables_more s [] v t h =
    subst (λ (y : Scope). type_variables s (v ∷ [])
    ≡ (of_kind v.type >>= λ b. Ok (record { name = v.name; binder = b } ∷ y))) (ok_same s t h) refl
variables_more s (x ∷ xs) v t h =
    let a = both_ok (of_kind x.type) _ t h in
    rw a.1 (variables_more (record { name = x.name; binder = a.0 } ∷ s) xs v t a.2)

variables_fault : (s : Scope) (vs : List RawVar) (i : ℕ) (d : RawVar) (t : Scope) (e : Fault) → i < length vs
    → d ≡ get_or vs i d
    → type_variables s (map raw_variable_tree (take i vs)) ≡ Ok t → of_kind (raw_variable_tree d).type ≡ Err e
    → type_variables s (map raw_variable_tree vs) ≡ Err e
variables_fault s [] i d t e l g h f = absurd (omega arith)
variables_fault s (x ∷ xs) zero d t e l g h f = rw (← g, f) refl
variables_fault s (x ∷ xs) (suc i) d t e l g h f =
    let a = both_ok (of_kind (raw_variable_tree x).type) _ t h in
    rw a.1 (variables_fault (record { name = (raw_variable_tree x).name; binder = a.0 } ∷ s) xs i d t e
    (omega arith) g a.2 f)

map_push : (vs : List RawVar) (v : RawVar)
    → map raw_variable_tree (vs ++ v ∷ []) ≡ map raw_variable_tree vs ++ raw_variable_tree v ∷ []
map_push [] v = refl
map_push (x ∷ xs) v = ap (λ l. raw_variable_tree x ∷ l) (map_push xs v)

pub variables_step : (vs : List RawVar) (i : ℕ) (d : RawVar) (scope : List Variable) (v : Variable) → i < length vs
    → d ≡ get_or vs i d
    → type_variables [] (map raw_variable_tree (take i vs)) ≡ Ok (scope_tree scope)
    → of_kind (raw_variable_tree d).type ≡ Ok (binder_tree v.binder) → v.name.now ≡ d.name
    → type_variables [] (map raw_variable_tree (take (i + 1) vs)) ≡ Ok (scope_tree (scope ++ v ∷ []))
variables_step vs i d scope v l g h f n =
    let m = variables_more [] (map raw_variable_tree (take i vs)) (raw_variable_tree d) (scope_tree scope) h in
    rw (take_more vs i d l, ← g, map_push (take i vs) d, m, f, scope_push scope v, n) refl

pub variables_stop : (vs : List RawVar) (i : ℕ) (d : RawVar) (scope : List Variable) (stop : Stop) → i < length vs
    → d ≡ get_or vs i d
    → type_variables [] (map raw_variable_tree (take i vs)) ≡ Ok (scope_tree scope)
    → Gives binder_tree (Err stop) (of_kind (raw_variable_tree d).type)
    → Gives scope_tree (Err stop) (type_variables [] (map raw_variable_tree vs))
variables_stop vs i d scope (stops.Refused e) l g h f =
    variables_fault [] vs i d (scope_tree scope) (fault_tree e) l g h f
variables_stop vs i d scope stops.Memory l g h f = tt

-- one more argument
pub argument_push : (ts : List Ty) (t : Ty) → types_tree (ts ++ t ∷ []) ≡ with_type (types_tree ts) (type_tree t)
argument_push [] t = refl
argument_push (x ∷ xs) t = ap (Tys.more (type_tree x)) (argument_push xs t)

module _ (table : Table) (s : Scope) (kinds : Bool) where
  abbrev arguments_first : Option tree.Ty → Tys → Tys
  arguments_first None us = us
  arguments_first (Some u) us = Tys.more u us

  one_argument : (t : raw.RawType) (ts : RawTypes)
      → arguments_in table s kinds (RawTypes.more t ts)
      ≡ (argument_at table s kinds t >>= λ o. arguments_in table s kinds ts >>= λ us. Ok (arguments_first o us))
  one_argument t ts = go (is_kind t)
    where
      same : (r : Outcome Tys) → r ≡ (r >>= λ us. Ok us)
      same (Ok x) = refl
      same (Err e) = refl

      kind : (b : Bool) → (if b then arguments_in table s kinds ts else Err Fault.not_a_type)
          ≡ ((if b then Ok None else Err Fault.not_a_type) >>= λ o. arguments_in table s kinds ts >>= λ us.
          Ok (arguments_first o us))
      kind true = same (arguments_in table s kinds ts)
      kind false = refl

      typed : (r : Outcome tree.Ty) → (r >>= λ u. arguments_in table s kinds ts >>= λ us. Ok (Tys.more u us))
          ≡ ((r >>= λ u. Ok (Some u)) >>= λ o. arguments_in table s kinds ts >>= λ us. Ok (arguments_first o us))
      typed (Ok u) = refl
      typed (Err e) = refl

      go : (b : Bool)
          → (if b
          then (if kinds then arguments_in table s kinds ts else Err Fault.not_a_type)
          else (type_in table s t >>= λ u. arguments_in table s kinds ts >>= λ us. Ok (Tys.more u us)))
          ≡ ((if b
          then (if kinds then Ok None else Err Fault.not_a_type)
          else (type_in table s t >>= λ u.
          Ok (Some u))) >>= λ o. arguments_in table s kinds ts >>= λ us. Ok (arguments_first o us))
      go true = kind kinds
      go false = typed (type_in table s t)

  first_last : (o p : Option tree.Ty) (us : Tys)
      → arguments_first o (with_argument us p) ≡ with_argument (arguments_first o us) p
  first_last None p us = refl
  first_last (Some u) None us = refl
  first_last (Some u) (Some v) us = refl

  regroup : (o : Option tree.Ty) (vs : Tys) (r : Outcome (Option tree.Ty))
      → ((r >>= λ p. Ok (with_argument vs p)) >>= λ us. Ok (arguments_first o us))
      ≡ (r >>= λ p. Ok (with_argument (arguments_first o vs) p))
  regroup o vs (Ok p) = rw (first_last o p vs) refl
  regroup o vs (Err e) = refl

  after_argument : (t : raw.RawType) (ts : RawTypes) (o : Option tree.Ty) (r : Outcome Tys)
      → argument_at table s kinds t ≡ Ok o → arguments_in table s kinds ts ≡ r
      → arguments_in table s kinds (RawTypes.more t ts) ≡ (r >>= λ us. Ok (arguments_first o us))
  after_argument t ts o r h i = one_argument t ts ∙ rw (h, i) refl

  only_argument : (r : Outcome (Option tree.Ty))
      → (r >>= λ o. Ok Tys.none >>= λ us. Ok (arguments_first o us)) ≡ (r >>= λ p. Ok (with_argument Tys.none p))
  only_argument (Ok None) = refl
  only_argument (Ok (Some u)) = refl
  only_argument (Err e) = refl

  arguments_more : (ts : RawTypes) (t : raw.RawType) (us : Tys) → arguments_in table s kinds ts ≡ Ok us
      → arguments_in table s kinds (with_raw_type ts t) ≡ (argument_at table s kinds t >>= λ o. Ok (with_argument us o))
  arguments_more RawTypes.none t us h =
      subst (λ (y : Tys). arguments_in table s kinds (RawTypes.more t RawTypes.none)
      ≡ (argument_at table s kinds t >>= λ o. Ok (with_argument y o))) (ok_same Tys.none us h)
      (one_argument t RawTypes.none ∙ only_argument (argument_at table s kinds t))
  arguments_more (RawTypes.more x xs) t us h =
      let a = both_ok (argument_at table s kinds x) _ us (sym (one_argument x xs) ∙ h) in
      let b = both_ok (arguments_in table s kinds xs) _ us a.2 in
      let i = arguments_more xs t b.0 b.1 in
      subst (λ (y : Tys). arguments_in table s kinds (RawTypes.more x (with_raw_type xs t))
      ≡ (argument_at table s kinds t >>= λ o. Ok (with_argument y o)))
      (ok_same (arguments_first a.0 b.0) us b.2)
      (after_argument x (with_raw_type xs t) a.0 (argument_at table s kinds t >>= λ o. Ok (with_argument b.0 o)) a.1 i
      ∙ regroup a.0 b.0 (argument_at table s kinds t))

  arguments_fault : (ts : List RawType) (i : ℕ) (d : RawType) (us : Tys) (e : Fault) → i < length ts → d ≡ get_or ts i d
      → arguments_in table s kinds (raw_types_tree (take i ts)) ≡ Ok us
      → argument_at table s kinds (raw_type_tree d) ≡ Err e
      → arguments_in table s kinds (raw_types_tree ts) ≡ Err e
  arguments_fault [] i d us e l g h f = absurd (omega arith)
  arguments_fault (x ∷ xs) zero d us e l g h f = one_argument (raw_type_tree x) (raw_types_tree xs) ∙ rw (← g, f) refl
  arguments_fault (x ∷ xs) (suc i) d us e l g h f =
      let a = both_ok (argument_at table s kinds (raw_type_tree x)) _ us
      (sym (one_argument (raw_type_tree x) (raw_types_tree (take i xs))) ∙ h) in
      let b = both_ok (arguments_in table s kinds (raw_types_tree (take i xs))) _ us a.2 in
      let k = arguments_fault xs i d b.0 e (omega arith) g b.1 f in
      after_argument (raw_type_tree x) (raw_types_tree xs) a.0 (Err e) a.1 k

pub arguments_step : (table : Table) (s : Scope) (kinds : Bool) (ts : List RawType) (i : ℕ) (d : RawType)
    (us vs : List Ty) (o : Option tree.Ty) → i < length ts → d ≡ get_or ts i d
    → arguments_in table s kinds (raw_types_tree (take i ts)) ≡ Ok (types_tree us)
    → argument_at table s kinds (raw_type_tree d) ≡ Ok o
    → types_tree vs ≡ with_argument (types_tree us) o
    → arguments_in table s kinds (raw_types_tree (take (i + 1) ts)) ≡ Ok (types_tree vs)
arguments_step table s kinds ts i d us vs o l g h f p =
    let m = arguments_more table s kinds (raw_types_tree (take i ts)) (raw_type_tree d) (types_tree us) h in
    rw (take_more ts i d l, ← g, raw_types_push (take i ts) d, m, f, p) refl

pub arguments_stop : {A : Type 0} (view : A → Option tree.Ty) (table : Table) (s : Scope) (kinds : Bool)
    (ts : List RawType) (i : ℕ) (d : RawType) (us : List Ty) (stop : Stop) → i < length ts → d ≡ get_or ts i d
    → arguments_in table s kinds (raw_types_tree (take i ts)) ≡ Ok (types_tree us)
    → Gives view (Err stop) (argument_at table s kinds (raw_type_tree d))
    → Gives types_tree (Err stop) (arguments_in table s kinds (raw_types_tree ts))
arguments_stop view table s kinds ts i d us (stops.Refused e) l g h f =
    arguments_fault table s kinds ts i d (types_tree us) (fault_tree e) l g h f
arguments_stop view table s kinds ts i d us stops.Memory l g h f = tt

-- constructors
pub constructor_made : (x : List ℕ) (n : ℕ) (vs : List Variable) (ts : List Ty) → length vs ≤ 0 → length ts ≤ 0
    → constructor_of x n (scope_tree vs) (types_tree ts)
    ≡ Ok (record { name = x; types = n; arguments = Tys.none; sense = Sense.constructor })
constructor_made x n [] [] l m = refl
constructor_made x n (v ∷ vs) ts l m = absurd (omega arith)
constructor_made x n [] (t ∷ ts) l m = absurd (omega arith)

bound_refused : (x : List ℕ) (n : ℕ) (s : Scope) (ts : Tys) → 0 < length s
    → constructor_of x n s ts ≡ Err Fault.not_a_type
bound_refused x n [] ts l = absurd (omega arith)
bound_refused x n (v ∷ vs) ts l = refl

pub constructor_bound : (x : List ℕ) (n : ℕ) (vs : List Variable) (ts : Tys) → 0 < length vs
    → constructor_of x n (scope_tree vs) ts ≡ Err Fault.not_a_type
constructor_bound x n vs ts l = bound_refused x n (scope_tree vs) ts (omega (arith, length_scope vs))

pub constructor_applied : (x : List ℕ) (n : ℕ) (vs : List Variable) (ts : List Ty) → 0 < length ts
    → constructor_of x n (scope_tree vs) (types_tree ts) ≡ Err Fault.not_a_type
constructor_applied x n vs [] l = absurd (omega arith)
constructor_applied x n vs (t ∷ ts) l = go (scope_tree vs)
  where
    go : (s : Scope) → constructor_of x n s (types_tree (t ∷ ts)) ≡ Err Fault.not_a_type
    go [] = refl
    go (v ∷ vs) = refl

-- a name that isn't known isn't declared
none_known : (o : Option Numbered) → false ≡ is_some o → o ≡ None
none_known None h = refl
none_known (Some d) h = absurd (go h)
  where
    go : false ≡ true → ⊥
    go h = cc

not_declared : (n : ℕ) (x : List ℕ) (table : Table) → first_from n (λ e. bytes_eq e.symbol.name x) table ≡ None
    → first_from n (declared_as x) table ≡ None
not_declared n x [] h = refl
not_declared n x (e ∷ es) h = go (bytes_eq e.symbol.name x) e.is_declared (λ i. not_declared (suc n) x es i) h
  where
    go : (b c : Bool)
        → (first_from (suc n) (λ e. bytes_eq e.symbol.name x) es ≡ None → first_from (suc n) (declared_as x) es ≡ None)
        → (if b
        then Some (record { number = n; symbol = e.symbol })
        else first_from (suc n) (λ e. bytes_eq e.symbol.name x) es) ≡ None
        → (if c && b then Some (record { number = n; symbol = e.symbol }) else first_from (suc n) (declared_as x) es)
        ≡ None
    go true c later h = absurd (none-some _ (sym h))
    go false true later h = later h
    go false false later h = later h

pub new_name : (table : Table) (x : List ℕ) → false ≡ is_some (known table x) → declared table x ≡ None
new_name table x h = not_declared 1 x table (none_known (known table x) h)

pub unknown : (table : Table) (x : List ℕ) → false ≡ is_some (known table x) → known table x ≡ None
unknown table x h = none_known (known table x) h

pub known_name : (table : Table) (x : List ℕ) (r : Outcome Table) → true ≡ is_some (known table x)
    → if_new (known table x) r ≡ Err Fault.redeclared
known_name table x r h = go (known table x) h
  where
    go : (o : Option Numbered) → true ≡ is_some o → if_new o r ≡ Err Fault.redeclared
    go (Some d) h = refl
    go None h = absurd (no h)
      where
        no : true ≡ false → ⊥
        no h = cc
