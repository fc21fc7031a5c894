-- No check of a file stops at a name or a variable without a type.
use Rattle.std.proofs.Common.{ℕ, suc, ◌≡◌, ◌+◌, List, [], ◌∷◌, ◌++◌, length, Option, Some, None, IfSome, Bool, true, false, cond, ◌||◌, refl, sym, ap, ◌∙◌, subst, arith}
use Rattle.std.specs.Option.{option_or}
use Rattle.std.specs.Str.{bytes_eq}
use Rattle.lp_terms.specs.Term.{Lp}
use Rattle.lp_terms.specs.Signature.{Entry, Holds}
use Rattle.lp_terms.specs.Signature as sig
use Rattle.lp_terms.specs.Reduction.{instance_at}
use Rattle.lp_terms.specs.Typing.{Context, Class}
use Rattle.lp_terms.specs.WellFormed.{rule_variables, rule_context, head}
use Rattle.lp_terms.specs.Names.{is_among}
use Rattle.lp_terms.specs.File.{IsTermOf, IsContextOf, IsEntryOf, AreEntriesOf, IsFile, declared_after}
use Rattle.lp_terms.specs.File as file
use Rattle.lp_reduce.specs.Scope.{IsScoped, AreScopedTypes, IsScopedEntry, IsScopedSignature}
use Rattle.lp_reduce.specs.Scope as sc
use Rattle.lp_reduce.proofs.Scoped.{scoped_more, AreTerms, scoped_instance, signature_no_free}
use Rattle.lp_reduce.proofs.Composed.{AreVariables}
use Rattle.lp_reduce.proofs.Steps.{on_first, on_test}
use Rattle.dk_checker.specs.Found.{Found, and_then, part}
use Rattle.dk_checker.specs.Asking.{is_sort, depth, declared_type, type_of_constant, asks, asks_sort, asks_head}
use Rattle.dk_checker.specs.Inference.{type_of, check_context, check_entry, check_after}
use Rattle.dk_checker.specs.Laws.{NothingIsUnbound}
use Rattle.dk_checker.proofs.Named.{IsNamed, IsNamedEntry, IsNamedSignature, named_instance}
use Rattle.dk_checker.proofs.Bound.{Bound, Any, bound_then, bound_part, asks_any, asks_sort_any, asks_head_any, IsGood, IsGoodClass, IsGoodContext, FoundGood, type_of_good, variables_named}
use Rattle.dk_checker.proofs.Files.{term_scoped, entry_scoped, scoped_append}

term_named : {declared : List (List ℕ)} {k : ℕ} {t : Lp} → IsTermOf declared k t → IsNamed declared t
term_named file.IsTermOf.sort = tt
term_named (file.IsTermOf.const d) = d
term_named (file.IsTermOf.index b) = tt
term_named (file.IsTermOf.app f a) = (term_named f, term_named a)
term_named (file.IsTermOf.abs a b) = (term_named a, term_named b)
term_named (file.IsTermOf.prod a b) = (term_named a, term_named b)

entry_named : {declared : List (List ℕ)} {e : Entry} → IsEntryOf declared e → IsNamedEntry declared e
entry_named (file.IsEntryOf.declare n t) = term_named t
entry_named (file.IsEntryOf.define n t b) = (term_named t, term_named b)
entry_named (file.IsEntryOf.rule c l r h o) = (term_named l, term_named r)

-- more names
or_true : (a b : Bool) → b ≡ true → (a || b) ≡ true
or_true true b h = refl
or_true false b h = h

named_more : (x : List ℕ) (declared : List (List ℕ)) (t : Lp) → IsNamed declared t → IsNamed (x ∷ declared) t
named_more x declared Lp.sort h = tt
named_more x declared (Lp.const name) h = or_true (bytes_eq x name) (is_among name declared) h
named_more x declared (Lp.free n) h = tt
named_more x declared (Lp.index i) h = tt
named_more x declared (Lp.app f a) h = (named_more x declared f h.0, named_more x declared a h.1)
named_more x declared (Lp.abs a b) h = (named_more x declared a h.0, named_more x declared b h.1)
named_more x declared (Lp.prod a b) h = (named_more x declared a h.0, named_more x declared b h.1)

named_after : (declared : List (List ℕ)) (e : Entry) (t : Lp) → IsNamed declared t → IsNamed (declared_after declared e) t
named_after declared (Entry.declare name definable type) t h = named_more name declared t h
named_after declared (Entry.rule context left right) t h = h
named_after declared (Entry.define name type body) t h = named_more name declared t h

entry_named_after : (declared : List (List ℕ)) (e d : Entry) → IsNamedEntry declared d → IsNamedEntry (declared_after declared e) d
entry_named_after declared e (Entry.declare name definable type) h = named_after declared e type h
entry_named_after declared e (Entry.rule context left right) h = (named_after declared e left h.0, named_after declared e right h.1)
entry_named_after declared e (Entry.define name type body) h = (named_after declared e type h.0, named_after declared e body h.1)

signature_named_after : (declared : List (List ℕ)) (sigma : List Entry) (e d : Entry) → ((x : Entry) → Holds sigma x → IsNamedEntry declared x) → IsNamedEntry declared e →
    Holds (sigma ++ (e ∷ [])) d → IsNamedEntry (declared_after declared e) d
signature_named_after declared [] e d w h sig.Holds.first = entry_named_after declared e e h
signature_named_after declared [] e d w h (sig.Holds.later k) = elim k [ ]
signature_named_after declared (c ∷ sigma) e d w h sig.Holds.first = entry_named_after declared e c (w c sig.Holds.first)
signature_named_after declared (c ∷ sigma) e d w h (sig.Holds.later k) = signature_named_after declared sigma e d (λ x i. w x (sig.Holds.later i)) h k

-- a type that is found is one of an entry
type_good : (names : List (List ℕ)) (sigma entries : List Entry) (name : List ℕ) → IsScopedSignature sigma → IsNamedSignature names sigma →
    ((e : Entry) → Holds entries e → Holds sigma e) → IfSome (type_of_constant entries name) (λ t. IsGood names 0 t)
type_good names sigma [] name w n h = tt
type_good names sigma (e ∷ entries) name w n h =
    on_first (λ t. IsGood names 0 t) (declared_type e name) (type_of_constant entries name) (by_entry e (w e (h e sig.Holds.first)) (n e (h e sig.Holds.first)))
    (type_good names sigma entries name w n (λ d i. h d (sig.Holds.later i)))
  where
    by_entry : (e : Entry) → IsScopedEntry e → IsNamedEntry names e → IfSome (declared_type e name) (λ t. IsGood names 0 t)
    by_entry (Entry.declare c definable type) s q = on_test (λ t. IsGood names 0 t) (bytes_eq c name) type (λ x. (s, q))
    by_entry (Entry.rule context left right) s q = tt
    by_entry (Entry.define c type body) s q = on_test (λ t. IsGood names 0 t) (bytes_eq c name) type (λ x. (s.0, q.0))

-- each name has a type
abbrev HaveTypes : List (List ℕ) → List Entry → Type 0
HaveTypes names sigma = (name : List ℕ) → is_among name names ≡ true → (t : Lp) × (type_of_constant sigma name ≡ Some t)

found_good : (names : List (List ℕ)) (o : Option Lp) → (t : Lp) × (o ≡ Some t) → IfSome o (λ t. IsGood names 0 t) → FoundGood names 0 o
found_good names (Some t) h g = (t, refl, g)
found_good names None h g = absurd (grind (arith, h.1))

or_assoc : (a b c : Option Lp) → option_or a (option_or b c) ≡ option_or (option_or a b) c
or_assoc (Some x) b c = refl
or_assoc None b c = refl

type_append : (sigma : List Entry) (e : Entry) (name : List ℕ) → type_of_constant (sigma ++ (e ∷ [])) name ≡ option_or (type_of_constant sigma name) (option_or (declared_type e name) None)
type_append [] e name = refl
type_append (c ∷ sigma) e name = ap (option_or (declared_type c name)) (type_append sigma e name) ∙ or_assoc (declared_type c name) (type_of_constant sigma name) (option_or (declared_type e name) None)

some_or : (o p : Option Lp) → (t : Lp) × (p ≡ Some t) → (t : Lp) × (option_or o p ≡ Some t)
some_or (Some x) p h = (x, refl)
some_or None p h = h

or_some : (o p : Option Lp) → (t : Lp) × (o ≡ Some t) → (t : Lp) × (option_or o p ≡ Some t)
or_some (Some x) p h = (x, refl)
or_some None p h = absurd (grind (arith, h.1))

new_type : (c name : List ℕ) (declared : List (List ℕ)) (sigma : List Entry) (o : Option Lp) (type : Lp) (b : Bool) → HaveTypes declared sigma →
    (b || is_among name declared) ≡ true → (t : Lp) × (option_or (type_of_constant sigma name) (option_or (cond b (Some type) None) None) ≡ Some t)
new_type c name declared sigma o type true h e = some_or (type_of_constant sigma name) (Some type) (type, refl)
new_type c name declared sigma o type false h e = or_some (type_of_constant sigma name) None (h name e)

types_after : (declared : List (List ℕ)) (sigma : List Entry) (e : Entry) → HaveTypes declared sigma → HaveTypes (declared_after declared e) (sigma ++ (e ∷ []))
types_after declared sigma e h name i = subst (λ o. (t : Lp) × (o ≡ Some t)) (sym (type_append sigma e name)) (by_entry e i)
  where
    by_entry : (e : Entry) → is_among name (declared_after declared e) ≡ true → (t : Lp) × (option_or (type_of_constant sigma name) (option_or (declared_type e name) None) ≡ Some t)
    by_entry (Entry.declare c definable type) i = new_type c name declared sigma None type (bytes_eq c name) h i
    by_entry (Entry.rule context left right) i = or_some (type_of_constant sigma name) None (h name i)
    by_entry (Entry.define c type body) i = new_type c name declared sigma None type (bytes_eq c name) h i

terms_more : (k : ℕ) (us : List Lp) → AreTerms k us → AreTerms (suc k) us
terms_more k [] a = tt
terms_more k (u ∷ us) a = (scoped_more (suc k) 0 (omega arith) (omega arith) a.0, terms_more k us a.1)

module _ (names : List (List ℕ)) (sigma : List Entry) (limit : ℕ) (w : IsScopedSignature sigma) (n : IsNamedSignature names sigma) (h : HaveTypes names sigma) where
  type_any : (g : Context) (us : List Lp) (t : Lp) → IsGoodContext names g → AreVariables us → IsScoped (depth g) 0 (instance_at 0 us t) → IsNamed names t →
      Bound (IsGoodClass names (depth g)) (type_of sigma limit g us t)
  type_any g us t ok v s q = type_of_good names sigma limit w (signature_no_free sigma w) n
      (λ name i. found_good names (type_of_constant sigma name) (h name i) (type_good names sigma sigma name w n (λ d j. j))) g us t ok v s q

  as_any : (k : ℕ) (wanted : Class) (m : Found Class) → Bound (IsGoodClass names k) m → Bound Any (and_then m (asks sigma limit k wanted))
  as_any k wanted m p = bound_then (IsGoodClass names k) Any m (asks sigma limit k wanted) p (λ c r. asks_any sigma limit k wanted c)

  sort_any : (t : Lp) → IsScoped 0 0 t → IsNamed names t → Bound Any (and_then (type_of sigma limit Context.empty [] t) (asks_sort sigma limit 0))
  sort_any t s q = bound_then (IsGoodClass names 0) Any (type_of sigma limit Context.empty [] t) (asks_sort sigma limit 0) (type_any Context.empty [] t tt tt s q) (λ c r. any_sort (λ d. is_sort d ≡ true) (asks_sort sigma limit 0 c) (asks_sort_any sigma limit 0 c))
    where
      any_sort : (P : Class → Type 0) (m : Found Class) → Bound P m → Bound Any m
      any_sort P (Found.gives x) p = tt
      any_sort P (Found.stops s) p = p

  instance_scoped : (k : ℕ) (us : List Lp) (g : Context) (t : Lp) → k ≡ depth g → AreTerms k us → length us ≡ k → IsTermOf names k t → IsScoped (depth g) 0 (instance_at 0 us t)
  instance_scoped k us g t e a l s =
      subst (λ m. IsScoped m 0 (instance_at 0 us t)) e (scoped_instance k 0 us t (scoped_more k (0 + length us) (omega arith) (omega arith) (term_scoped s)) a)

  context_any : (types : List Lp) (k : ℕ) (us : List Lp) (g : Context) → IsContextOf names k types → IsGoodContext names g → k ≡ depth g → AreVariables us → AreTerms k us → length us ≡ k →
      Bound Any (check_context sigma limit types k us g)
  context_any [] k us g c ok e v a l = tt
  context_any (type ∷ types) k us g (file.IsContextOf.bind s c) ok e v a l =
      let T : Lp = instance_at 0 us type in
      let S : IsScoped (depth g) 0 T = instance_scoped k us g type e a l s in
      let Q : IsNamed names T = named_instance names 0 us type (variables_named names us v) (term_named s) in
      bound_then Any Any (part k (and_then (type_of sigma limit g us type) (asks sigma limit (depth g) (Class.of Lp.sort)))) _
      (bound_part Any k (and_then (type_of sigma limit g us type) (asks sigma limit (depth g) (Class.of Lp.sort)))
      (as_any (depth g) (Class.of Lp.sort) (type_of sigma limit g us type) (type_any g us type ok v S (term_named s))))
      (λ x y. context_any types (suc k) (Lp.free k ∷ us) (Context.bind k T g) c (e, (S, Q), ok) (ap suc e) ((k, refl), v) (sc.IsScoped.free (omega arith), terms_more k us a) (ap suc l))

  -- a rule's context
  abbrev IsRuleContext : List Lp → ℕ → List Lp → Context → Type 0
  IsRuleContext types k us g = IsGoodContext names (rule_context types k us g) × AreVariables (rule_variables types k us) × AreTerms (k + length types) (rule_variables types k us)
      × (length (rule_variables types k us) ≡ k + length types) × (k + length types ≡ depth (rule_context types k us g))

  rule_context_good : (types : List Lp) (k : ℕ) (us : List Lp) (g : Context) → IsContextOf names k types → IsGoodContext names g → k ≡ depth g → AreVariables us → AreTerms k us → length us ≡ k →
      IsRuleContext types k us g
  rule_context_good [] k us g c ok e v a l = (ok, v, subst (λ m. AreTerms m us) (let f : k ≡ k + 0 = omega arith in f) a, (let f : length us ≡ k = l in omega arith), (let f : k ≡ depth g = e in omega arith))
  rule_context_good (type ∷ types) k us g (file.IsContextOf.bind s c) ok e v a l =
      let T : Lp = instance_at 0 us type in
      let S : IsScoped (depth g) 0 T = instance_scoped k us g type e a l s in
      let Q : IsNamed names T = named_instance names 0 us type (variables_named names us v) (term_named s) in
      let r : IsRuleContext types (suc k) (Lp.free k ∷ us) (Context.bind k T g) =
      rule_context_good types (suc k) (Lp.free k ∷ us) (Context.bind k T g) c (e, (S, Q), ok) (ap suc e) ((k, refl), v) (sc.IsScoped.free (omega arith), terms_more k us a) (ap suc l) in
      let m : suc k + length types ≡ k + suc (length types) = omega arith in
      (r.0, r.1, subst (λ j. AreTerms j (rule_variables types (suc k) (Lp.free k ∷ us))) m r.2, r.3 ∙ m, sym m ∙ r.4)

  entry_any : (e : Entry) → IsEntryOf names e → Bound Any (check_entry sigma limit e)
  entry_any (Entry.declare name definable type) (file.IsEntryOf.declare d t) =
      bound_then Any Any (part 0 (and_then (type_of sigma limit Context.empty [] type) (asks_sort sigma limit 0))) _
      (bound_part Any 0 (and_then (type_of sigma limit Context.empty [] type) (asks_sort sigma limit 0)) (sort_any type (term_scoped t) (term_named t))) (λ x y. tt)
  entry_any (Entry.define name type body) (file.IsEntryOf.define d t b) =
      bound_then Any Any (part 0 (and_then (type_of sigma limit Context.empty [] type) (asks_sort sigma limit 0))) _
      (bound_part Any 0 (and_then (type_of sigma limit Context.empty [] type) (asks_sort sigma limit 0)) (sort_any type (term_scoped t) (term_named t)))
      (λ x y. bound_part Any 1 (and_then (type_of sigma limit Context.empty [] body) (asks sigma limit 0 (Class.of type)))
      (as_any 0 (Class.of type) (type_of sigma limit Context.empty [] body) (type_any Context.empty [] body tt tt (term_scoped b) (term_named b))))
  entry_any (Entry.rule context left right) (file.IsEntryOf.rule c l r p o) =
      let g : Context = rule_context context 0 [] Context.empty in
      let us : List Lp = rule_variables context 0 [] in
      let k : IsRuleContext context 0 [] Context.empty = rule_context_good context 0 [] Context.empty c tt refl tt tt refl in
      let z : 0 + length context ≡ length context = omega arith in
      let e : length context ≡ depth g = sym z ∙ k.4 in
      let a : AreTerms (length context) us = subst (λ j. AreTerms j us) z k.2 in
      let m : length us ≡ length context = k.3 ∙ z in
      let L : IsScoped (depth g) 0 (instance_at 0 us left) = instance_scoped (length context) us g left e a m l in
      let R : IsScoped (depth g) 0 (instance_at 0 us right) = instance_scoped (length context) us g right e a m r in
      bound_then Any Any (asks_head sigma limit (head left)) _ (asks_head_any sigma limit (head left)) (λ x y.
      bound_then Any Any (check_context sigma limit context 0 [] Context.empty) _ (context_any context 0 [] Context.empty c tt refl tt tt refl) (λ x y.
      bound_then (IsGoodClass names (depth g)) Any (part (length context) (type_of sigma limit g us left)) _
      (bound_part (IsGoodClass names (depth g)) (length context) (type_of sigma limit g us left) (type_any g us left k.0 k.1 L (term_named l)))
      (λ wanted z. bound_part Any (suc (length context)) (and_then (type_of sigma limit g us right) (asks sigma limit (depth g) wanted))
      (as_any (depth g) wanted (type_of sigma limit g us right) (type_any g us right k.0 k.1 R (term_named r))))))

after_any : (limit : ℕ) (names : List (List ℕ)) (sigma : List Entry) (k : ℕ) (entries : List Entry) → IsScopedSignature sigma → IsNamedSignature names sigma → HaveTypes names sigma → AreEntriesOf names entries →
    Bound Any (check_after limit sigma k entries)
after_any limit names sigma k [] w n h f = tt
after_any limit names sigma k (e ∷ entries) w n h (file.AreEntriesOf.next f fs) =
    bound_then Any Any (part k (check_entry sigma limit e)) _ (bound_part Any k (check_entry sigma limit e) (entry_any names sigma limit w n h e f))
    (λ x y. after_any limit (declared_after names e) (sigma ++ (e ∷ [])) (suc k) entries (λ d i. scoped_append sigma e d w (entry_scoped f) i)
    (λ d i. signature_named_after names sigma e d n (entry_named f) i) (types_after names sigma e h) fs)

no_names : HaveTypes [] []
no_names name e = absurd (grind (arith, e))

pub nothing_is_unbound : NothingIsUnbound
nothing_is_unbound limit entries f e = subst (Bound Any) e (after_any limit [] [] 0 entries (λ d i. elim i [ ]) (λ d i. elim i [ ]) no_names f.in_order)
