-- Lists of written types and terms, one element further.
use Rattle.std.proofs.Common.{◌≡◌, ℕ, zero, suc, ◌+◌, ◌<◌, ◌≤◌, Ok, Err, List, [], ◌∷◌, ◌++◌, length, get_or, take, refl, ap, arith, subst}
use Rattle.std.proofs.lemmas.List.{take_more}
use Rattle.zm_logic.specs.Tree.{Tys}
use Rattle.zm_logic.specs.Tree as tree
use Rattle.zm_logic.specs.declared.tree.Ty.{Ty}
use Rattle.zm_logic.specs.View.{type_tree, types_tree}
use Rattle.zm_logic.proofs.Lists.{with_type, types_tree_push}
use Rattle.tptp_reader.specs.Raw as raw
use Rattle.tff_typing.specs.Scope.{Scope}
use Rattle.tff_typing.specs.Table.{Table}
use Rattle.tff_typing.specs.Fault.{Fault, Outcome, ◌>>=◌}
use Rattle.tff_typing.specs.Places.{type_in, types_in, first}
use Rattle.tptp_reader.specs.declared.tree.RawType.{RawType}
use Rattle.tff_typing.specs.declared.fault.Stop.{Stop}
use Rattle.tff_typing.specs.declared.fault.Stop.TheVariants as stops
use Rattle.tptp_reader.specs.View.{raw_type_tree, raw_types_tree, raw_term_tree, raw_terms_tree}
use Rattle.tff_typing.specs.View.{Gives, fault_tree}
use Rattle.tptp_reader.specs.declared.tree.RawTerm.{RawTerm}
use Rattle.tff_typing.specs.Written as written
use Rattle.tff_typing.specs.Written.{as_type, as_types}
use Rattle.tff_typing.proofs.Outcomes.{both_ok, ok_same}

-- one more written type at the end
abbrev pub with_raw_type : raw.RawTypes → raw.RawType → raw.RawTypes
with_raw_type raw.RawTypes.none t = raw.RawTypes.more t raw.RawTypes.none
with_raw_type (raw.RawTypes.more x xs) t = raw.RawTypes.more x (with_raw_type xs t)

pub raw_types_push : (ts : List RawType) (t : RawType)
    → raw_types_tree (ts ++ t ∷ []) ≡ with_raw_type (raw_types_tree ts) (raw_type_tree t)
raw_types_push [] t = refl
raw_types_push (x ∷ xs) t = ap (raw.RawTypes.more (raw_type_tree x)) (raw_types_push xs t)

regroup : (v : tree.Ty) (vs : Tys) (r : Outcome tree.Ty)
    → ((r >>= λ u. Ok (with_type vs u)) >>= λ ws. Ok (Tys.more v ws)) ≡ (r >>= λ u. Ok (with_type (Tys.more v vs) u))
regroup v vs (Ok u) = refl
regroup v vs (Err e) = refl

first_then : (table : Table) (s : Scope) (x : raw.RawType) (ts : raw.RawTypes) (r : Outcome tree.Ty) (v : tree.Ty)
    (vs : Tys) → type_in table s x ≡ Ok v
    → types_in table s ts ≡ (r >>= λ u. Ok (with_type vs u))
    → types_in table s (raw.RawTypes.more x ts) ≡ (r >>= λ u. Ok (with_type (Tys.more v vs) u))
first_then table s x ts r v vs h i = rw (h, i) (regroup v vs r)

fault_then : (table : Table) (s : Scope) (x : raw.RawType) (ts : raw.RawTypes) (v : tree.Ty) (e : Fault)
    → type_in table s x ≡ Ok v
    → types_in table s ts ≡ Err e → types_in table s (raw.RawTypes.more x ts) ≡ Err e
fault_then table s x ts v e h i = rw (h, i) refl

-- typed one by one: the types so far, then one more, or its fault
pub types_in_more : (table : Table) (s : Scope) (ts : raw.RawTypes) (t : raw.RawType) (us : Tys)
    → types_in table s ts ≡ Ok us
    → types_in table s (with_raw_type ts t) ≡ (type_in table s t >>= λ u. Ok (with_type us u))
types_in_more table s raw.RawTypes.none t us h =
    subst (λ (x : Tys). types_in table s (raw.RawTypes.more t raw.RawTypes.none)
    ≡ (type_in table s t >>= λ u. Ok (with_type x u))) (ok_same Tys.none us h) refl
types_in_more table s (raw.RawTypes.more x xs) t us h =
    let a = both_ok (type_in table s x) _ us h in
    let b = both_ok (types_in table s xs) _ us a.2 in
    let i = types_in_more table s xs t b.0 b.1 in
    subst (λ (y : Tys). types_in table s (raw.RawTypes.more x (with_raw_type xs t))
    ≡ (type_in table s t >>= λ u. Ok (with_type y u)))
    (ok_same (Tys.more a.0 b.0) us b.2)
    (first_then table s x (with_raw_type xs t) (type_in table s t) a.0 b.0 a.1 i)

-- the first fault of a list is that of the first part that has one
pub types_in_fault : (table : Table) (s : Scope) (ts : List RawType) (i : ℕ) (d : RawType) (us : Tys) (e : Fault)
    → i < length ts
    → d ≡ get_or ts i d → types_in table s (raw_types_tree (take i ts)) ≡ Ok us
    → type_in table s (raw_type_tree d) ≡ Err e
    → types_in table s (raw_types_tree ts) ≡ Err e
types_in_fault table s [] i d us e l g h f = absurd (omega arith)
types_in_fault table s (x ∷ xs) zero d us e l g h f = rw (← g, f) refl
types_in_fault table s (x ∷ xs) (suc i) d us e l g h f =
    let a = both_ok (type_in table s (raw_type_tree x)) _ us h in
    let b = both_ok (types_in table s (raw_types_tree (take i xs))) _ us a.2 in
    let k = types_in_fault table s xs i d b.0 e (omega arith) g b.1 f in
    fault_then table s (raw_type_tree x) (raw_types_tree xs) a.0 e a.1 k

-- one more type of the loop
pub types_in_step : (table : Table) (s : Scope) (ts : List RawType) (i : ℕ) (d : RawType) (us : List Ty) (u : Ty)
    → i < length ts
    → d ≡ get_or ts i d → types_in table s (raw_types_tree (take i ts)) ≡ Ok (types_tree us)
    → type_in table s (raw_type_tree d) ≡ Ok (type_tree u)
    → types_in table s (raw_types_tree (take (i + 1) ts)) ≡ Ok (types_tree (us ++ u ∷ []))
types_in_step table s ts i d us u l g h f =
    let m = types_in_more table s (raw_types_tree (take i ts)) (raw_type_tree d) (types_tree us) h in
    rw (take_more ts i d l, ← g, raw_types_push (take i ts) d, m, f, types_tree_push us u) refl

pub number_of_types_tree : (ts : List RawType) → length ts ≡ written.number_of_types (raw_types_tree ts)
number_of_types_tree [] = refl
number_of_types_tree (x ∷ xs) = ap suc (number_of_types_tree xs)

pub number_of_terms_tree : (us : List RawTerm) → length us ≡ written.number_of_terms (raw_terms_tree us)
number_of_terms_tree [] = refl
number_of_terms_tree (x ∷ xs) = ap suc (number_of_terms_tree xs)

pub number_of_terms_as_types : (us : List RawTerm) → length us ≡ written.number_of_types (as_types (raw_terms_tree us))
number_of_terms_as_types [] = refl
number_of_terms_as_types (x ∷ xs) = ap suc (number_of_terms_as_types xs)

-- where typing stops at a part, the list stops there
pub types_in_stop : (table : Table) (s : Scope) (ts : List RawType) (i : ℕ) (d : RawType) (us : List Ty) (stop : Stop)
    → i < length ts
    → d ≡ get_or ts i d → types_in table s (raw_types_tree (take i ts)) ≡ Ok (types_tree us)
    → Gives type_tree (Err stop) (type_in table s (raw_type_tree d))
    → Gives types_tree (Err stop) (types_in table s (raw_types_tree ts))
types_in_stop table s ts i d us (stops.Refused e) l g h f =
    types_in_fault table s ts i d (types_tree us) (fault_tree e) l g h f
types_in_stop table s ts i d us stops.Memory l g h f = tt

-- the same where the types are written as terms
pub as_types_push : (us : List RawTerm) (u : RawTerm)
    → as_types (raw_terms_tree (us ++ u ∷ []))
    ≡ with_raw_type (as_types (raw_terms_tree us)) (as_type (raw_term_tree u))
as_types_push [] u = refl
as_types_push (x ∷ xs) u = ap (raw.RawTypes.more (as_type (raw_term_tree x))) (as_types_push xs u)

pub terms_as_types_step : (table : Table) (s : Scope) (ts : List RawTerm) (i : ℕ) (d : RawTerm) (us : List Ty) (u : Ty)
    → i < length ts
    → d ≡ get_or ts i d → types_in table s (as_types (raw_terms_tree (take i ts))) ≡ Ok (types_tree us)
    → type_in table s (as_type (raw_term_tree d)) ≡ Ok (type_tree u)
    → types_in table s (as_types (raw_terms_tree (take (i + 1) ts))) ≡ Ok (types_tree (us ++ u ∷ []))
terms_as_types_step table s ts i d us u l g h f =
    let m = types_in_more table s (as_types (raw_terms_tree (take i ts))) (as_type (raw_term_tree d))
    (types_tree us) h in
    rw (take_more ts i d l, ← g, as_types_push (take i ts) d, m, f, types_tree_push us u) refl

terms_as_types_fault : (table : Table) (s : Scope) (ts : List RawTerm) (i : ℕ) (d : RawTerm) (us : Tys) (e : Fault)
    → i < length ts
    → d ≡ get_or ts i d → types_in table s (as_types (raw_terms_tree (take i ts))) ≡ Ok us
    → type_in table s (as_type (raw_term_tree d)) ≡ Err e
    → types_in table s (as_types (raw_terms_tree ts)) ≡ Err e
terms_as_types_fault table s [] i d us e l g h f = absurd (omega arith)
terms_as_types_fault table s (x ∷ xs) zero d us e l g h f = rw (← g, f) refl
terms_as_types_fault table s (x ∷ xs) (suc i) d us e l g h f =
    let a = both_ok (type_in table s (as_type (raw_term_tree x))) _ us h in
    let b = both_ok (types_in table s (as_types (raw_terms_tree (take i xs)))) _ us a.2 in
    let k = terms_as_types_fault table s xs i d b.0 e (omega arith) g b.1 f in
    fault_then table s (as_type (raw_term_tree x)) (as_types (raw_terms_tree xs)) a.0 e a.1 k

pub terms_as_types_stop : (table : Table) (s : Scope) (ts : List RawTerm) (i : ℕ) (d : RawTerm) (us : List Ty)
    (stop : Stop) → i < length ts
    → d ≡ get_or ts i d → types_in table s (as_types (raw_terms_tree (take i ts))) ≡ Ok (types_tree us)
    → Gives type_tree (Err stop) (type_in table s (as_type (raw_term_tree d)))
    → Gives types_tree (Err stop) (types_in table s (as_types (raw_terms_tree ts)))
terms_as_types_stop table s ts i d us (stops.Refused e) l g h f =
    terms_as_types_fault table s ts i d (types_tree us) (fault_tree e) l g h f
terms_as_types_stop table s ts i d us stops.Memory l g h f = tt

-- the first parts
pub first_tree : (us : List RawTerm) (n : ℕ) → n < length us → raw_terms_tree (take n us) ≡ first n (raw_terms_tree us)
first_tree [] n l = absurd (omega arith)
first_tree (x ∷ xs) zero l = refl
first_tree (x ∷ xs) (suc n) l = ap (raw.RawTerms.more (raw_term_tree x)) (first_tree xs n (omega arith))

pub first_all : (us : List RawTerm) (n : ℕ) → length us ≤ n → raw_terms_tree us ≡ first n (raw_terms_tree us)
first_all [] zero l = refl
first_all [] (suc n) l = refl
first_all (x ∷ xs) zero l = absurd (omega arith)
first_all (x ∷ xs) (suc n) l = ap (raw.RawTerms.more (raw_term_tree x)) (first_all xs n (omega arith))
