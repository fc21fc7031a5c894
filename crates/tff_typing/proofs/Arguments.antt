-- A symbol's arguments, one further.
use Rattle.std.proofs.Common.{◌≡◌, ℕ, zero, suc, ◌+◌, ◌-◌, ◌<◌, ◌≤◌, Some, None, Ok, Err, List, [], ◌∷◌, ◌++◌, length, get_or, slice_get, take, drop, refl, ap, arith, subst, sym, ◌∙◌}
use Rattle.std.proofs.lemmas.Option.{same_Some, none-some}
use Rattle.zm_logic.specs.Tree as tree
use Rattle.zm_logic.specs.Tree.{Tys, Terms}
use Rattle.zm_logic.specs.declared.tree.Ty.{Ty}
use Rattle.zm_logic.specs.declared.tree.Term.{Term}
use Rattle.zm_logic.specs.View.{type_tree, types_tree, term_tree, terms_tree}
use Rattle.zm_logic.proofs.Lists.{with_term, terms_tree_push}
use Rattle.tptp_reader.specs.Raw as raw
use Rattle.tptp_reader.specs.Raw.{RawTerms}
use Rattle.tptp_reader.specs.declared.tree.RawTerm.{RawTerm}
use Rattle.tptp_reader.specs.View.{raw_term_tree, raw_terms_tree}
use Rattle.tff_typing.specs.Scope.{Scope}
use Rattle.tff_typing.specs.Table.{Table, Place}
use Rattle.tff_typing.specs.Fault.{Fault, Outcome, ◌>>=◌}
use Rattle.tff_typing.specs.Places.{Expression, wanted, rest}
use Rattle.tff_typing.specs.Typing.{Typed, gives, unchanged}
use Rattle.tff_typing.specs.Indexed.{expression_at, terms_at, term_at}
use Rattle.tff_typing.specs.declared.symbols.Symbols.{Symbols}
use Rattle.tff_typing.specs.declared.fault.Stop.{Stop}
use Rattle.tff_typing.specs.declared.fault.Stop.TheVariants as stops
use Rattle.tff_typing.specs.View.{fault_tree, Gives, GivesIn}
use Rattle.tff_typing.proofs.Outcomes.{both_ok, ok_same, no_ok}

-- the first parts are passed over
terms_rest : (table : Table) (s : Scope) (n : ℕ) (ws : Tys) (us : RawTerms)
    → terms_at table s 0 ws (rest n us) ≡ terms_at table s n ws us
terms_rest table s zero ws RawTerms.none = refl
terms_rest table s (suc n) ws RawTerms.none = refl
terms_rest table s zero ws (RawTerms.more u us) = refl
terms_rest table s (suc n) ws (RawTerms.more u us) = terms_rest table s n ws us

abbrev fault : {A : Type 0} → Fault → Outcome A
fault e = Err e

fault_same : {A : Type 0} (e f : Fault) → fault {A = A} e ≡ Err f → e ≡ f
fault_same e f h = cc

abbrev typed : Terms → Table → Typed Terms
typed us table = record { tree = us; table = table }

typed_same : (us vs : Terms) (t v : Table) → gives t us ≡ Ok (typed vs v) → (us ≡ vs) × (t ≡ v)
typed_same us vs t v h =
    let e = ok_same (typed us t) (typed vs v) h in
    (ap (λ (y : Typed Terms). y.tree) e, ap (λ (y : Typed Terms). y.table) e)

-- one more argument
abbrev one_more : Terms → Outcome (Typed tree.Term) → Outcome (Typed Terms)
one_more us o = o >>= λ a. gives a.table (with_term us a.tree)

only : (table : Table) (s : Scope) (w : tree.Ty) (ws : Tys) (x : raw.RawTerm)
    → terms_at table s 0 (Tys.more w ws) (RawTerms.more x RawTerms.none) ≡ one_more Terms.none (term_at table s w x)
only table s w ws x = go (expression_at table s Place.term x)
  where
    last : (t : Table) (r : Outcome tree.Term)
        → (r >>= λ a. gives t Terms.none >>= λ vs. gives vs.table (Terms.more a vs.tree))
        ≡ one_more Terms.none (unchanged t r)
    last t (Ok a) = refl
    last t (Err e) = refl

    go : (r : Outcome (Typed Expression))
        → (r >>= λ x. wanted w x.tree >>= λ a. gives x.table Terms.none >>= λ vs. gives vs.table (Terms.more a vs.tree))
        ≡ one_more Terms.none (r >>= λ x. unchanged x.table (wanted w x.tree))
    go (Err e) = refl
    go (Ok e) = last e.table (wanted w e.tree)

after_first : (table : Table) (s : Scope) (w : tree.Ty) (ws : Tys) (x : raw.RawTerm) (us : RawTerms)
    (e : Typed Expression) (a : tree.Term) (o : Outcome (Typed Terms))
    → expression_at table s Place.term x ≡ Ok e → wanted w e.tree ≡ Ok a → terms_at e.table s 0 ws us ≡ o
    → terms_at table s 0 (Tys.more w ws) (RawTerms.more x us) ≡ (o >>= λ vs. gives vs.table (Terms.more a vs.tree))
after_first table s w ws x us e a o h i j = rw (h, i, j) refl

first_fault : (table : Table) (s : Scope) (w : tree.Ty) (ws : Tys) (x : raw.RawTerm) (us : RawTerms) (f : Fault)
    → term_at table s w x ≡ Err f
    → terms_at table s 0 (Tys.more w ws) (RawTerms.more x us) ≡ Err f
first_fault table s w ws x us f h = go (expression_at table s Place.term x) h
  where
    last : (e : Typed Expression) (r : Outcome tree.Term) → unchanged e.table r ≡ Err f
        → (r >>= λ a. terms_at e.table s 0 ws us >>= λ vs. gives vs.table (Terms.more a vs.tree)) ≡ Err f
    last e (Ok a) h = absurd (no_ok f _ (sym h))
    last e (Err g) h = ap (λ (y : Fault). fault {A = Typed Terms} y) (fault_same g f h)

    go : (r : Outcome (Typed Expression)) → (r >>= λ x. unchanged x.table (wanted w x.tree)) ≡ Err f
        → (r >>= λ x. wanted w x.tree >>= λ a. terms_at x.table s 0 ws us >>= λ vs.
        gives vs.table (Terms.more a vs.tree)) ≡ Err f
    go (Err g) h = ap (λ (y : Fault). fault {A = Typed Terms} y) (fault_same g f h)
    go (Ok e) h = last e (wanted w e.tree) h

push_more : (a : tree.Term) (us : Terms) (o : Outcome (Typed tree.Term))
    → (one_more us o >>= λ vs. gives vs.table (Terms.more a vs.tree)) ≡ one_more (Terms.more a us) o
push_more a us (Ok x) = refl
push_more a us (Err e) = refl

more_terms : (table : Table) (s : Scope) (ws : List Ty) (us : List RawTerm) (i : ℕ) (d : RawTerm) (w : Ty) (all : Terms)
    (mid : Table)
    → i < length us → d ≡ get_or us i d → Some w ≡ slice_get ws i
    → terms_at table s 0 (types_tree ws) (raw_terms_tree (take i us)) ≡ Ok (typed all mid)
    → terms_at table s 0 (types_tree ws) (raw_terms_tree (take (suc i) us))
    ≡ one_more all (term_at mid s (type_tree w) (raw_term_tree d))
more_terms table s ws [] i d w all mid l g k h = absurd (omega arith)
more_terms table s [] (x ∷ xs) i d w all mid l g k h = absurd (none-some w (sym k))
more_terms table s (v ∷ vs) (x ∷ xs) zero d w all mid l g k h =
    let e = typed_same Terms.none all table mid h in
    let q = same_Some w v k in
    rw (← e.0, ← e.1, q, g) (only table s (type_tree v) (types_tree vs) (raw_term_tree x))
more_terms table s (v ∷ vs) (x ∷ xs) (suc i) d w all mid l g k h =
    let a = both_ok (expression_at table s Place.term (raw_term_tree x)) _ (typed all mid) h in
    let b = both_ok (wanted (type_tree v) a.0.tree) _ (typed all mid) a.2 in
    let c = both_ok (terms_at a.0.table s 0 (types_tree vs) (raw_terms_tree (take i xs))) _ (typed all mid) b.2 in
    let t = typed_same (Terms.more b.0 c.0.tree) all c.0.table mid c.2 in
    let r = more_terms a.0.table s vs xs i d w c.0.tree c.0.table (omega arith) g k c.1 in
    after_first table s (type_tree v) (types_tree vs) (raw_term_tree x) (raw_terms_tree (take (suc i) xs)) a.0 b.0
    (one_more c.0.tree (term_at c.0.table s (type_tree w) (raw_term_tree d))) a.1 b.1 r
    ∙ push_more b.0 c.0.tree (term_at c.0.table s (type_tree w) (raw_term_tree d))
    ∙ ap (λ (y : Terms). one_more y (term_at c.0.table s (type_tree w) (raw_term_tree d))) t.0
    ∙ ap (λ (y : Table). one_more all (term_at y s (type_tree w) (raw_term_tree d))) t.1

-- where an argument has a fault, the list has it
fault_at : (table : Table) (s : Scope) (ws : List Ty) (us : List RawTerm) (i : ℕ) (d : RawTerm) (w : Ty) (all : Terms)
    (mid : Table) (f : Fault)
    → i < length us → d ≡ get_or us i d → Some w ≡ slice_get ws i
    → terms_at table s 0 (types_tree ws) (raw_terms_tree (take i us)) ≡ Ok (typed all mid)
    → term_at mid s (type_tree w) (raw_term_tree d) ≡ Err f
    → terms_at table s 0 (types_tree ws) (raw_terms_tree us) ≡ Err f
fault_at table s ws [] i d w all mid f l g k h e = absurd (omega arith)
fault_at table s [] (x ∷ xs) i d w all mid f l g k h e = absurd (none-some w (sym k))
fault_at table s (v ∷ vs) (x ∷ xs) zero d w all mid f l g k h e =
    let t = typed_same Terms.none all table mid h in
    let q = same_Some w v k in
    first_fault table s (type_tree v) (types_tree vs) (raw_term_tree x) (raw_terms_tree xs) f
    (ap (λ (y : Table). term_at y s (type_tree v) (raw_term_tree x)) t.1
    ∙ ap (λ (y : Ty). term_at mid s (type_tree y) (raw_term_tree x)) (sym q)
    ∙ ap (λ (y : RawTerm). term_at mid s (type_tree w) (raw_term_tree y)) (sym g) ∙ e)
fault_at table s (v ∷ vs) (x ∷ xs) (suc i) d w all mid f l g k h e =
    let a = both_ok (expression_at table s Place.term (raw_term_tree x)) _ (typed all mid) h in
    let b = both_ok (wanted (type_tree v) a.0.tree) _ (typed all mid) a.2 in
    let c = both_ok (terms_at a.0.table s 0 (types_tree vs) (raw_terms_tree (take i xs))) _ (typed all mid) b.2 in
    let t = typed_same (Terms.more b.0 c.0.tree) all c.0.table mid c.2 in
    let r = fault_at a.0.table s vs xs i d w c.0.tree c.0.table f (omega arith) g k c.1
    (ap (λ (y : Table). term_at y s (type_tree w) (raw_term_tree d)) t.1 ∙ e) in
    after_first table s (type_tree v) (types_tree vs) (raw_term_tree x) (raw_terms_tree xs) a.0 b.0 (Err f) a.1 b.1 r

-- where no type is wanted any more, the rest is passed over
no_more : (table : Table) (s : Scope) (ws : List Ty) (us : List RawTerm) (i : ℕ) (r : Typed Terms)
    → None ≡ slice_get ws i
    → terms_at table s 0 (types_tree ws) (raw_terms_tree (take i us)) ≡ Ok r
    → terms_at table s 0 (types_tree ws) (raw_terms_tree us) ≡ Ok r
no_more table s ws [] zero r k h = h
no_more table s ws [] (suc i) r k h = h
no_more table s [] (x ∷ xs) zero r k h = h
no_more table s [] (x ∷ xs) (suc i) r k h = h
no_more table s (v ∷ vs) (x ∷ xs) zero r k h = absurd (none-some v k)
no_more table s (v ∷ vs) (x ∷ xs) (suc i) r k h =
    let a = both_ok (expression_at table s Place.term (raw_term_tree x)) _ r h in
    let b = both_ok (wanted (type_tree v) a.0.tree) _ r a.2 in
    let c = both_ok (terms_at a.0.table s 0 (types_tree vs) (raw_terms_tree (take i xs))) _ r b.2 in
    let y = no_more a.0.table s vs xs i c.0 k c.1 in
    after_first table s (type_tree v) (types_tree vs) (raw_term_tree x) (raw_terms_tree xs) a.0 b.0 (Ok c.0) a.1 b.1 y
    ∙ c.2

-- a prefix after the first n parts
rest_taken : (us : List RawTerm) (n i : ℕ)
    → rest n (raw_terms_tree (take (n + i) us)) ≡ raw_terms_tree (take i (drop n us))
rest_taken us zero i = let e : 0 + i ≡ i = omega arith in rw e refl
rest_taken [] (suc n) i = let e : suc n + i ≡ suc (n + i) = omega arith in rw e (nothing i)
  where
    nothing : (i : ℕ) → RawTerms.none ≡ raw_terms_tree (take {A = RawTerm} i [])
    nothing zero = refl
    nothing (suc i) = refl
rest_taken (x ∷ xs) (suc n) i = let e : suc n + i ≡ suc (n + i) = omega arith in rw e (rest_taken xs n i)

taken_at : (table : Table) (s : Scope) (n i : ℕ) (ws : Tys) (us : List RawTerm)
    → terms_at table s n ws (raw_terms_tree (take (n + i) us))
    ≡ terms_at table s 0 ws (raw_terms_tree (take i (drop n us)))
taken_at table s n i ws us =
    sym (terms_rest table s n ws (raw_terms_tree (take (n + i) us))) ∙ ap (terms_at table s 0 ws) (rest_taken us n i)

dropped : (us : List RawTerm) (n i : ℕ) (d : RawTerm) → n + i < length us → get_or us (n + i) d ≡ get_or (drop n us) i d
dropped us zero i d l = let e : 0 + i ≡ i = omega arith in rw e refl
dropped [] (suc n) i d l = absurd (omega arith)
dropped (x ∷ xs) (suc n) i d l = let e : suc n + i ≡ suc (n + i) = omega arith in rw e (dropped xs n i d (omega arith))

length_dropped : (us : List RawTerm) (n i : ℕ) → n + i < length us → i < length (drop n us)
length_dropped us zero i l = omega arith
length_dropped [] (suc n) i l = absurd (omega arith)
length_dropped (x ∷ xs) (suc n) i l = length_dropped xs n i (omega arith)

-- the next argument, after n types
next_term : (table : Table) (s : Scope) (n i : ℕ) (ws : List Ty) (us : List RawTerm) (d : RawTerm) (w : Ty)
    (all : Terms) (mid : Table)
    → n + i < length us → d ≡ get_or us (n + i) d → Some w ≡ slice_get ws i
    → terms_at table s n (types_tree ws) (raw_terms_tree (take (n + i) us)) ≡ Ok (typed all mid)
    → terms_at table s n (types_tree ws) (raw_terms_tree (take (n + suc i) us))
    ≡ one_more all (term_at mid s (type_tree w) (raw_term_tree d))
next_term table s n i ws us d w all mid l g k h =
    taken_at table s n (suc i) (types_tree ws) us
    ∙ more_terms table s ws (drop n us) i d w all mid (length_dropped us n i l) (g ∙ dropped us n i d l) k
    (sym (taken_at table s n i (types_tree ws) us) ∙ h)

term_of : (mid : Table) (s : Scope) (w : tree.Ty) (u : raw.RawTerm) (e : Expression) (after : Table)
    (r : Outcome tree.Term)
    → expression_at mid s Place.term u ≡ Ok (record { tree = e; table = after }) → wanted w e ≡ r
    → term_at mid s w u ≡ unchanged after r
term_of mid s w u e after r h i = rw (h, i) refl

pub terms_step : (table : Table) (s : Scope) (n k i : ℕ) (ws : List Ty) (us : List RawTerm) (d : RawTerm) (w : Ty)
    (e : Expression) (all : List Term) (a : Term) (mid after : Table)
    → k < length us → n ≤ k → i ≡ k - n → d ≡ get_or us k d → Some w ≡ slice_get ws i
    → terms_at table s n (types_tree ws) (raw_terms_tree (take k us))
    ≡ Ok (record { tree = terms_tree all; table = mid })
    → expression_at mid s Place.term (raw_term_tree d) ≡ Ok (record { tree = e; table = after })
    → wanted (type_tree w) e ≡ Ok (term_tree a)
    → terms_at table s n (types_tree ws) (raw_terms_tree (take (k + 1) us))
    ≡ Ok (record { tree = terms_tree (all ++ a ∷ []); table = after })
terms_step table s n k i ws us d w e all a mid after l m q g j h f o =
    let p : k ≡ n + i = omega arith in
    let x : k + 1 ≡ n + suc i = omega arith in
    let y = next_term table s n i ws us d w (terms_tree all) mid (omega arith)
    (subst (λ (z : ℕ). d ≡ get_or us z d) p g) j
    (subst (λ (z : ℕ). terms_at table s n (types_tree ws) (raw_terms_tree (take z us))
    ≡ Ok (typed (terms_tree all) mid)) p h) in
    let z = term_of mid s (type_tree w) (raw_term_tree d) e after (Ok (term_tree a)) f o in
    rw (x, y, z, terms_tree_push all a) refl

-- the first parts, as many as there are types, are passed over
skipped : (table : Table) (s : Scope) (n k : ℕ) (ws : Tys) (us : List RawTerm) → k ≤ n
    → terms_at table s n ws (raw_terms_tree (take k us)) ≡ gives table Terms.none
skipped table s n zero ws [] l = refl
skipped table s n (suc k) ws [] l = refl
skipped table s n zero ws (x ∷ xs) l = refl
skipped table s zero (suc k) ws (x ∷ xs) l = absurd (omega arith)
skipped table s (suc n) (suc k) ws (x ∷ xs) l = skipped table s n k ws xs (omega arith)

pub terms_skip : (table : Table) (s : Scope) (n k : ℕ) (ws : List Ty) (us : List RawTerm) (r : Typed Terms) → k < n
    → terms_at table s n (types_tree ws) (raw_terms_tree (take k us)) ≡ Ok r
    → terms_at table s n (types_tree ws) (raw_terms_tree (take (k + 1) us)) ≡ Ok r
terms_skip table s n k ws us r l h =
    skipped table s n (k + 1) (types_tree ws) us (omega arith)
    ∙ sym (skipped table s n k (types_tree ws) us (omega arith)) ∙ h

rest_dropped : (us : List RawTerm) (n : ℕ) → rest n (raw_terms_tree us) ≡ raw_terms_tree (drop n us)
rest_dropped us zero = refl
rest_dropped [] (suc n) = refl
rest_dropped (x ∷ xs) (suc n) = rest_dropped xs n

all_at : (table : Table) (s : Scope) (n : ℕ) (ws : Tys) (us : List RawTerm)
    → terms_at table s n ws (raw_terms_tree us) ≡ terms_at table s 0 ws (raw_terms_tree (drop n us))
all_at table s n ws us =
    sym (terms_rest table s n ws (raw_terms_tree us)) ∙ ap (terms_at table s 0 ws) (rest_dropped us n)

pub terms_unwanted : (table : Table) (s : Scope) (n k i : ℕ) (ws : List Ty) (us : List RawTerm) (r : Typed Terms)
    → n ≤ k → i ≡ k - n → None ≡ slice_get ws i
    → terms_at table s n (types_tree ws) (raw_terms_tree (take k us)) ≡ Ok r
    → terms_at table s n (types_tree ws) (raw_terms_tree us) ≡ Ok r
terms_unwanted table s n k i ws us r l q j h =
    let p : k ≡ n + i = omega arith in
    all_at table s n (types_tree ws) us
    ∙ no_more table s ws (drop n us) i r j
    (sym (taken_at table s n i (types_tree ws) us)
    ∙ subst (λ (z : ℕ). terms_at table s n (types_tree ws) (raw_terms_tree (take z us)) ≡ Ok r) p h)

terms_fault : (table : Table) (s : Scope) (n k i : ℕ) (ws : List Ty) (us : List RawTerm) (d : RawTerm) (w : Ty)
    (all : Terms) (mid : Table) (f : Fault)
    → k < length us → n ≤ k → i ≡ k - n → d ≡ get_or us k d → Some w ≡ slice_get ws i
    → terms_at table s n (types_tree ws) (raw_terms_tree (take k us)) ≡ Ok (typed all mid)
    → term_at mid s (type_tree w) (raw_term_tree d) ≡ Err f
    → terms_at table s n (types_tree ws) (raw_terms_tree us) ≡ Err f
terms_fault table s n k i ws us d w all mid f l m q g j h e =
    let p : k ≡ n + i = omega arith in
    all_at table s n (types_tree ws) us
    ∙ fault_at table s ws (drop n us) i d w all mid f (length_dropped us n i (omega arith))
    (subst (λ (z : ℕ). d ≡ get_or us z d) p g ∙ dropped us n i d (omega arith)) j
    (sym (taken_at table s n i (types_tree ws) us)
    ∙ subst (λ (z : ℕ). terms_at table s n (types_tree ws) (raw_terms_tree (take z us)) ≡ Ok (typed all mid)) p h) e

expression_fault : (mid : Table) (s : Scope) (w : tree.Ty) (u : raw.RawTerm) (f : Fault)
    → expression_at mid s Place.term u ≡ Err f → term_at mid s w u ≡ Err f
expression_fault mid s w u f h = rw h refl

-- where an argument stops, the list stops there
pub terms_stop : {A : Type 0} (view : A → Expression) (stop : Stop) (x y : Symbols) (table : Table) (s : Scope)
    (n k i : ℕ) (ws : List Ty) (us : List RawTerm) (d : RawTerm) (w : Ty) (all : Terms) (mid : Table)
    → k < length us → n ≤ k → i ≡ k - n → d ≡ get_or us k d → Some w ≡ slice_get ws i
    → terms_at table s n (types_tree ws) (raw_terms_tree (take k us)) ≡ Ok (record { tree = all; table = mid })
    → GivesIn view (Err stop) x (expression_at mid s Place.term (raw_term_tree d))
    → GivesIn terms_tree (Err stop) y (terms_at table s n (types_tree ws) (raw_terms_tree us))
terms_stop view (stops.Refused f) x y table s n k i ws us d w all mid l m q g j h e =
    terms_fault table s n k i ws us d w all mid (fault_tree f) l m q g j h
    (expression_fault mid s (type_tree w) (raw_term_tree d) (fault_tree f) e)
terms_stop view stops.Memory x y table s n k i ws us d w all mid l m q g j h e = tt

pub terms_refused : (stop : Stop) (y : Symbols) (table : Table) (s : Scope) (n k i : ℕ) (ws : List Ty)
    (us : List RawTerm) (d : RawTerm) (w : Ty) (e : Expression) (all : Terms) (mid after : Table)
    → k < length us → n ≤ k → i ≡ k - n → d ≡ get_or us k d → Some w ≡ slice_get ws i
    → terms_at table s n (types_tree ws) (raw_terms_tree (take k us)) ≡ Ok (record { tree = all; table = mid })
    → expression_at mid s Place.term (raw_term_tree d) ≡ Ok (record { tree = e; table = after })
    → Gives term_tree (Err stop) (wanted (type_tree w) e)
    → GivesIn terms_tree (Err stop) y (terms_at table s n (types_tree ws) (raw_terms_tree us))
terms_refused (stops.Refused f) y table s n k i ws us d w e all mid after l m q g j h o r =
    terms_fault table s n k i ws us d w all mid (fault_tree f) l m q g j h
    (term_of mid s (type_tree w) (raw_term_tree d) e after (Err (fault_tree f)) o r)
terms_refused stops.Memory y table s n k i ws us d w e all mid after l m q g j h o r = tt

some_got : (ws : List Ty) (i : ℕ) (w : Ty) → i < length ws → w ≡ get_or ws i w → Some w ≡ slice_get ws i
some_got [] i w l g = absurd (omega arith)
some_got (x ∷ xs) zero w l g = ap Some g
some_got (x ∷ xs) (suc i) w l g = some_got xs i w (omega arith) g

none_got : (ws : List Ty) (i : ℕ) → length ws ≤ i → None ≡ slice_get ws i
none_got [] zero l = refl
none_got [] (suc i) l = refl
none_got (x ∷ xs) zero l = absurd (omega arith)
none_got (x ∷ xs) (suc i) l = none_got xs i (omega arith)

-- the same as the loop states them
pub step : (table : Table) (s : Scope) (n k : ℕ) (ws : List Ty) (us : List RawTerm) (d : RawTerm) (w : Ty)
    (e : Expression) (all : List Term) (a : Term) (mid after : Table)
    → k < length us → n ≤ k → d ≡ get_or us k d → k - n < length ws → w ≡ get_or ws (k - n) w
    → terms_at table s n (types_tree ws) (raw_terms_tree (take k us))
    ≡ Ok (record { tree = terms_tree all; table = mid })
    → expression_at mid s Place.term (raw_term_tree d) ≡ Ok (record { tree = e; table = after })
    → wanted (type_tree w) e ≡ Ok (term_tree a)
    → terms_at table s n (types_tree ws) (raw_terms_tree (take (k + 1) us))
    ≡ Ok (record { tree = terms_tree (all ++ a ∷ []); table = after })
step table s n k ws us d w e all a mid after l m g i j h f o =
    terms_step table s n k (k - n) ws us d w e all a mid after l m refl g (some_got ws (k - n) w i j) h f o

pub unwanted : (table : Table) (s : Scope) (n k : ℕ) (ws : List Ty) (us : List RawTerm) (r : Typed Terms) → n ≤ k
    → length ws ≤ k - n
    → terms_at table s n (types_tree ws) (raw_terms_tree (take k us)) ≡ Ok r
    → terms_at table s n (types_tree ws) (raw_terms_tree us) ≡ Ok r
unwanted table s n k ws us r l i h = terms_unwanted table s n k (k - n) ws us r l refl (none_got ws (k - n) i) h

pub stop : {A : Type 0} (view : A → Expression) (f : Stop) (x y : Symbols) (table : Table) (s : Scope) (n k : ℕ)
    (ws : List Ty) (us : List RawTerm) (d : RawTerm) (w : Ty) (all : Terms) (mid : Table)
    → k < length us → n ≤ k → d ≡ get_or us k d → k - n < length ws → w ≡ get_or ws (k - n) w
    → terms_at table s n (types_tree ws) (raw_terms_tree (take k us)) ≡ Ok (record { tree = all; table = mid })
    → GivesIn view (Err f) x (expression_at mid s Place.term (raw_term_tree d))
    → GivesIn terms_tree (Err f) y (terms_at table s n (types_tree ws) (raw_terms_tree us))
stop view f x y table s n k ws us d w all mid l m g i j h e =
    terms_stop view f x y table s n k (k - n) ws us d w all mid l m refl g (some_got ws (k - n) w i j) h e

pub refused : (f : Stop) (y : Symbols) (table : Table) (s : Scope) (n k : ℕ) (ws : List Ty) (us : List RawTerm)
    (d : RawTerm) (w : Ty) (e : Expression) (all : Terms) (mid after : Table)
    → k < length us → n ≤ k → d ≡ get_or us k d → k - n < length ws → w ≡ get_or ws (k - n) w
    → terms_at table s n (types_tree ws) (raw_terms_tree (take k us)) ≡ Ok (record { tree = all; table = mid })
    → expression_at mid s Place.term (raw_term_tree d) ≡ Ok (record { tree = e; table = after })
    → Gives term_tree (Err f) (wanted (type_tree w) e)
    → GivesIn terms_tree (Err f) y (terms_at table s n (types_tree ws) (raw_terms_tree us))
refused f y table s n k ws us d w e all mid after l m g i j h o r =
    terms_refused f y table s n k (k - n) ws us d w e all mid after l m refl g (some_got ws (k - n) w i j) h o r
