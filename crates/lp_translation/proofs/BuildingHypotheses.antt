-- The oldest proof of a formula, as it is looked for from the last fact on.
use Rattle.std.proofs.Common.{ℕ, suc, ◌≡◌, ◌+◌, ◌-◌, ◌<◌, ◌≤◌, Bool, true, false, cond, ◌||◌, List, [], ◌∷◌, ◌++◌, length, map, take, drop, get_or, refl, ap, sym, ◌∙◌, arith, take_all}
use Rattle.std.specs.Borrow.{Bor}
use Rattle.std.proofs.lemmas.List.{take_more, drop_more, drop_all, map-append, length-map, length-take, length-take-le, take-append-le}
use Rattle.lp_terms.specs.Term.{Lp}
use Rattle.zm_logic.specs.Tree.{Form}
use Rattle.zm_logic.specs.Same.{same, has}
use Rattle.zm_logic.specs.View.{form_tree}
use Rattle.zm_logic.specs.declared.tree.Form as code
use Rattle.lp_translation.specs.ProofOf.{Hypotheses, proves, earliest, also, bound_by}
use Rattle.lp_translation.specs.ViewOldest.{forms_of, wants, meets, oldest_or}
use Rattle.lp_translation.specs.declared.hypotheses.Fact.{Fact}
use Rattle.lp_translation.specs.View.{with_fact, with_facts, hypotheses_of}

or_false : (b : Bool) → (b || false) ≡ b
or_false true = refl
or_false false = refl

or_assoc : (a b c : Bool) → (a || (b || c)) ≡ ((a || b) || c)
or_assoc true b c = refl
or_assoc false b c = refl

or_swap : (a b c d : Bool) → ((a || b) || (c || d)) ≡ ((a || c) || (b || d))
or_swap true b c d = refl
or_swap false true true d = refl
or_swap false true false d = refl
or_swap false false c d = refl

wants_more : (ws : List Form) (f x : Form) → wants (ws ++ f ∷ []) x ≡ (wants ws x || same x f)
wants_more [] f x = or_false (same x f)
wants_more (w ∷ ws) f x = ap (λ b. same x w || b) (wants_more ws f x) ∙ or_assoc (same x w) (wants ws x) (same x f)

meets_more : (fs ws : List Form) (f : Form) → meets fs (ws ++ f ∷ []) ≡ (meets fs ws || has fs f)
meets_more [] ws f = refl
meets_more (x ∷ fs) ws f =
    ap (λ b. b || meets fs (ws ++ f ∷ [])) (wants_more ws f x)
    ∙ ap (λ b. (wants ws x || same x f) || b) (meets_more fs ws f)
    ∙ or_swap (wants ws x) (same x f) (meets fs ws) (has fs f)

meets_one : (fs : List Form) (f : Form) → meets fs (f ∷ []) ≡ has fs f
meets_one [] f = refl
meets_one (x ∷ fs) f = ap (λ b. b || meets fs (f ∷ [])) (or_false (same x f)) ∙ ap (λ b. same x f || b) (meets_one fs f)

-- what is wanted is met by a hypothesis that has it
met : (fs ws : List Form) (f : Form) → has fs f ≡ true → meets fs (ws ++ f ∷ []) ≡ true
met fs ws f h = meets_more fs ws f ∙ go (meets fs ws) (has fs f) h
  where
    go : (b c : Bool) → c ≡ true → (b || c) ≡ true
    go true c e = refl
    go false c e = e

unmet : (fs ws : List Form) (f : Form) → has fs f ≡ false → meets fs (ws ++ f ∷ []) ≡ meets fs ws
unmet fs ws f h = meets_more fs ws f ∙ ap (λ b. meets fs ws || b) h ∙ or_false (meets fs ws)

-- where some hypothesis has a wanted formula, what was found before it doesn't count
proved_settles : (hs : Hypotheses) (f : Form) (ws : List Form) (u v : Lp) → proves hs f ≡ true
    → oldest_or hs (ws ++ f ∷ []) u ≡ oldest_or hs (ws ++ f ∷ []) v
proved_settles Hypotheses.none f ws u v e = absurd (cc)
proved_settles (Hypotheses.more fs h hs) f ws u v e =
    go (proves hs f) (has fs f) refl refl e
    (proved_settles hs f ws (cond (meets fs (ws ++ f ∷ [])) h u) (cond (meets fs (ws ++ f ∷ [])) h v))
  where
    go : (b c : Bool) → proves hs f ≡ b → has fs f ≡ c → (c || b) ≡ true
        → (proves hs f ≡ true → oldest_or hs (ws ++ f ∷ []) (cond (meets fs (ws ++ f ∷ [])) h u) ≡ oldest_or hs (ws ++ f ∷ []) (cond (meets fs (ws ++ f ∷ [])) h v))
        → oldest_or hs (ws ++ f ∷ []) (cond (meets fs (ws ++ f ∷ [])) h u) ≡ oldest_or hs (ws ++ f ∷ []) (cond (meets fs (ws ++ f ∷ [])) h v)
    go true c p q k older = older p
    go false true p q k older =
        ap (λ b. oldest_or hs (ws ++ f ∷ []) (cond b h u)) (met fs ws f q)
        ∙ sym (ap (λ b. oldest_or hs (ws ++ f ∷ []) (cond b h v)) (met fs ws f q))
    go false false p q k older = absurd (cc)

-- where none has it, it needn't be wanted
unproved_drops : (hs : Hypotheses) (f : Form) (ws : List Form) (u : Lp) → proves hs f ≡ false
    → oldest_or hs (ws ++ f ∷ []) u ≡ oldest_or hs ws u
unproved_drops Hypotheses.none f ws u e = refl
unproved_drops (Hypotheses.more fs h hs) f ws u e = go (proves hs f) (has fs f) refl refl e (unproved_drops hs f ws (cond (meets fs ws) h u))
  where
    go : (b c : Bool) → proves hs f ≡ b → has fs f ≡ c → (c || b) ≡ false
        → (proves hs f ≡ false → oldest_or hs (ws ++ f ∷ []) (cond (meets fs ws) h u) ≡ oldest_or hs ws (cond (meets fs ws) h u))
        → oldest_or hs (ws ++ f ∷ []) (cond (meets fs (ws ++ f ∷ [])) h u) ≡ oldest_or hs ws (cond (meets fs ws) h u)
    go b true p q k older = absurd (cc)
    go true false p q k older = absurd (cc)
    go false false p q k older = ap (λ b. oldest_or hs (ws ++ f ∷ []) (cond b h u)) (unmet fs ws f q) ∙ older p

-- what proves f proves g too, but g isn't wanted
also_unwanted : (f g : Form) (hs : Hypotheses) (ws : List Form) (u : Lp) → wants ws g ≡ false
    → oldest_or (also f g hs) ws u ≡ oldest_or hs ws u
also_unwanted f g Hypotheses.none ws u e = refl
also_unwanted f g (Hypotheses.more fs h hs) ws u e = go (proves hs f) (has fs f) (also_unwanted f g hs ws (cond (meets fs ws) h u) e)
  where
    go : (b c : Bool) → oldest_or (also f g hs) ws (cond (meets fs ws) h u) ≡ oldest_or hs ws (cond (meets fs ws) h u)
        → oldest_or (cond b (Hypotheses.more fs h (also f g hs)) (cond c (Hypotheses.more (g ∷ fs) h hs) (Hypotheses.more fs h hs))) ws u
        ≡ oldest_or hs ws (cond (meets fs ws) h u)
    go true c older = older
    go false true older = ap (λ b. oldest_or hs ws (cond (b || meets fs ws) h u)) e
    go false false older = refl

-- g is wanted, so f is
also_wanted : (f g : Form) (hs : Hypotheses) (ws : List Form) (u : Lp) → wants ws g ≡ true
    → oldest_or (also f g hs) ws u ≡ oldest_or hs (ws ++ f ∷ []) u
also_wanted f g Hypotheses.none ws u e = refl
also_wanted f g (Hypotheses.more fs h hs) ws u e = go (proves hs f) (has fs f) refl refl (also_wanted f g hs ws (cond (meets fs ws) h u) e)
  where
    go : (b c : Bool) → proves hs f ≡ b → has fs f ≡ c
        → oldest_or (also f g hs) ws (cond (meets fs ws) h u) ≡ oldest_or hs (ws ++ f ∷ []) (cond (meets fs ws) h u)
        → oldest_or (cond b (Hypotheses.more fs h (also f g hs)) (cond c (Hypotheses.more (g ∷ fs) h hs) (Hypotheses.more fs h hs))) ws u
        ≡ oldest_or hs (ws ++ f ∷ []) (cond (meets fs (ws ++ f ∷ [])) h u)
    go true c p q older =
        older
        ∙ proved_settles hs f ws (cond (meets fs ws) h u) (cond (meets fs (ws ++ f ∷ [])) h u) p
    go false true p q older =
        ap (λ b. oldest_or hs ws (cond (b || meets fs ws) h u)) e
        ∙ sym (ap (λ b. oldest_or hs (ws ++ f ∷ []) (cond b h u)) (met fs ws f q) ∙ unproved_drops hs f ws h p)
    go false false p q older =
        sym (ap (λ b. oldest_or hs (ws ++ f ∷ []) (cond b h u)) (unmet fs ws f q) ∙ unproved_drops hs f ws (cond (meets fs ws) h u) p)

-- the same, as one fact is looked at
pub looked_wanted : (f g : Form) (hs : Hypotheses) (ws us : List Form) (u : Lp) → true ≡ wants ws g → us ≡ ws ++ f ∷ []
    → oldest_or (also f g hs) ws u ≡ oldest_or hs us u
looked_wanted f g hs ws us u e i = also_wanted f g hs ws u (sym e) ∙ sym (ap (λ xs. oldest_or hs xs u) i)

pub looked_unwanted : (f g : Form) (hs : Hypotheses) (ws : List Form) (u : Lp) → false ≡ wants ws g
    → oldest_or (also f g hs) ws u ≡ oldest_or hs ws u
looked_unwanted f g hs ws u e = also_unwanted f g hs ws u (sym e)

-- a proof of its own
pub looked_proved : (f : Form) (h : Lp) (hs : Hypotheses) (ws : List Form) (u : Lp) → true ≡ wants ws f
    → oldest_or (Hypotheses.more (f ∷ []) h hs) ws u ≡ oldest_or hs ws h
looked_proved f h hs ws u e = ap (λ b. oldest_or hs ws (cond (b || false) h u)) (sym e)

pub looked_other : (f : Form) (h : Lp) (hs : Hypotheses) (ws : List Form) (u : Lp) → false ≡ wants ws f
    → oldest_or (Hypotheses.more (f ∷ []) h hs) ws u ≡ oldest_or hs ws u
looked_other f h hs ws u e = ap (λ b. oldest_or hs ws (cond (b || false) h u)) (sym e)

-- the oldest proof of one formula is the earliest one
oldest_of_one : (hs : Hypotheses) (x : Form) (u : Lp) → oldest_or hs (x ∷ []) u ≡ cond (proves hs x) (earliest hs x) u
oldest_of_one Hypotheses.none x u = refl
oldest_of_one (Hypotheses.more fs h hs) x u =
    oldest_of_one hs x (cond (meets fs (x ∷ [])) h u)
    ∙ ap (λ b. cond (proves hs x) (earliest hs x) (cond b h u)) (meets_one fs x)
    ∙ go (proves hs x) (has fs x)
  where
    go : (b c : Bool) → cond b (earliest hs x) (cond c h u) ≡ cond (c || b) (cond b (earliest hs x) (cond c h Lp.sort)) u
    go true true = refl
    go true false = refl
    go false true = refl
    go false false = refl

earliest_or_sort : (hs : Hypotheses) (x : Form) → cond (proves hs x) (earliest hs x) Lp.sort ≡ earliest hs x
earliest_or_sort Hypotheses.none x = refl
earliest_or_sort (Hypotheses.more fs h hs) x = go (proves hs x) (has fs x)
  where
    go : (b c : Bool) → cond (c || b) (cond b (earliest hs x) (cond c h Lp.sort)) Lp.sort ≡ cond b (earliest hs x) (cond c h Lp.sort)
    go true true = refl
    go true false = refl
    go false true = refl
    go false false = refl

pub oldest_is_earliest : (hs : Hypotheses) (x : Form) → oldest_or hs (x ∷ []) Lp.sort ≡ earliest hs x
oldest_is_earliest hs x = oldest_of_one hs x Lp.sort ∙ earliest_or_sort hs x

-- one fact more
pub with_facts_push : (hs : Hypotheses) (fs : List Fact) (f : Fact) → with_facts hs (fs ++ f ∷ []) ≡ with_fact (with_facts hs fs) f
with_facts_push hs [] f = refl
with_facts_push hs (g ∷ fs) f = with_facts_push (with_fact hs g) fs f

pub hypotheses_more : (fs : List Fact) (i : ℕ) (d : Fact) → i < length fs
    → hypotheses_of (take (i + 1) fs) ≡ with_fact (hypotheses_of (take i fs)) (get_or fs i d)
hypotheses_more fs i d h = rw (take_more fs i d h) (with_facts_push Hypotheses.none (take i fs) (get_or fs i d))

-- one formula more that the next variable proves
pub bound_push : (d : ℕ) (fs : List Form) (f : Form) (hs : Hypotheses)
    → bound_by d (fs ++ f ∷ []) hs ≡ Hypotheses.more (f ∷ []) (Lp.free (length fs + d)) (bound_by d fs hs)
bound_push d [] f hs = ap (λ (n : ℕ). Hypotheses.more (f ∷ []) (Lp.free n) hs) (omega arith)
bound_push d (g ∷ fs) f hs =
    bound_push (suc d) fs f (Hypotheses.more (g ∷ []) (Lp.free d) hs)
    ∙ ap (λ (n : ℕ). Hypotheses.more (f ∷ []) (Lp.free n) (bound_by d (g ∷ fs) hs)) (omega arith)

wants_step : (ws : List (Bor code.Form)) (x : Form) (i : ℕ) (d : Bor code.Form) → i < length ws
    → wants (forms_of (drop i ws)) x ≡ (same x (form_tree (get_or ws i d).now) || wants (forms_of (drop (i + 1) ws)) x)
wants_step ws x i d h = rw (drop_more ws i d h)

-- the formula at one place is the wanted one, or isn't; none is left
pub wants_here : (ws : List (Bor code.Form)) (x : Form) (i : ℕ) (d : Bor code.Form) → i < length ws
    → same x (form_tree (get_or ws i d).now) ≡ true → wants (forms_of (drop i ws)) x ≡ true
wants_here ws x i d h s = wants_step ws x i d h ∙ ap (λ b. b || wants (forms_of (drop (i + 1) ws)) x) s

pub wants_on : (ws : List (Bor code.Form)) (x : Form) (i : ℕ) (d : Bor code.Form) → i < length ws
    → same x (form_tree (get_or ws i d).now) ≡ false → wants (forms_of (drop i ws)) x ≡ wants (forms_of (drop (i + 1) ws)) x
wants_on ws x i d h s = wants_step ws x i d h ∙ ap (λ b. b || wants (forms_of (drop (i + 1) ws)) x) s

pub wants_none : (ws : List (Bor code.Form)) (x : Form) (i : ℕ) → length ws ≤ i → wants (forms_of (drop i ws)) x ≡ false
wants_none ws x i l = rw (drop_all i ws l)

-- the facts with one pushed, and what was kept before it
pub pushed : (fs gs : List Fact) (f : Fact) → gs ≡ fs ++ f ∷ [] → hypotheses_of gs ≡ with_fact (hypotheses_of fs) f
pushed fs gs f e = ap hypotheses_of e ∙ with_facts_push Hypotheses.none fs f

pub kept_push : {X : Type 0} (hs fs gs : List X) (f : X) → gs ≡ fs ++ f ∷ [] → take (length hs) fs ≡ hs → take (length hs) gs ≡ hs
kept_push hs fs gs f e k =
    let n : length (take (length hs) fs) ≡ length hs = ap length k in
    let m = length-take (length hs) fs in
    ap (take (length hs)) e ∙ take-append-le (length hs) fs (f ∷ []) (omega (arith, m, n)) ∙ k

-- one formula more that the next variable proves
pub bound_more : (d : ℕ) (fs : List (code.Form)) (i : ℕ) (x : code.Form) (hs : Hypotheses) → i < length fs → x ≡ get_or fs i x
    → Hypotheses.more (form_tree x ∷ []) (Lp.free (i + d)) (bound_by d (map form_tree (take i fs)) hs)
    ≡ bound_by d (map form_tree (take (i + 1) fs)) hs
bound_more d fs i x hs h e =
    let n : length (map form_tree (take i fs)) ≡ i = length-map (take i fs) form_tree ∙ length-take-le i fs (omega arith) in
    ap (λ (k : ℕ). Hypotheses.more (form_tree x ∷ []) (Lp.free (k + d)) (bound_by d (map form_tree (take i fs)) hs)) (sym n)
    ∙ sym (bound_push d (map form_tree (take i fs)) (form_tree x) hs)
    ∙ ap (λ (ys : List Form). bound_by d ys hs) (sym (map-append form_tree (take i fs) (x ∷ [])))
    ∙ ap (λ (ys : List code.Form). bound_by d (map form_tree ys) hs)
    (ap (λ (y : code.Form). take i fs ++ y ∷ []) e ∙ sym (take_more fs i x h))

pub take_whole : {X : Type 0} (xs : List X) → take (length xs) xs ≡ xs
take_whole xs = take_all (length xs) xs (omega arith)

-- one fact further back
pub looked_back : (fs : List Fact) (i : ℕ) (d : Fact) (ws us : List Form) (u v e : Lp) → i < length fs
    → d ≡ get_or fs (length fs - 1 - i) d → ((hs : Hypotheses) → oldest_or (with_fact hs d) ws u ≡ oldest_or hs us v)
    → oldest_or (hypotheses_of (take (length fs - i) fs)) ws u ≡ e
    → oldest_or (hypotheses_of (take (length fs - (i + 1)) fs)) us v ≡ e
looked_back fs i d ws us u v e l is step found =
    let j = length fs - 1 - i in
    let a : length fs - (i + 1) ≡ j = omega arith in
    let b : length fs - i ≡ j + 1 = omega arith in
    ap (λ (n : ℕ). oldest_or (hypotheses_of (take n fs)) us v) a
    ∙ sym (step (hypotheses_of (take j fs)))
    ∙ ap (λ (x : Fact). oldest_or (with_fact (hypotheses_of (take j fs)) x) ws u) is
    ∙ sym (ap (λ (hs : Hypotheses). oldest_or hs ws u) (hypotheses_more fs j d (omega arith)))
    ∙ ap (λ (n : ℕ). oldest_or (hypotheses_of (take n fs)) ws u) (sym b)
    ∙ found

pub forms_push : (ws us : List (Bor code.Form)) (f : Bor code.Form) → us ≡ ws ++ f ∷ [] → forms_of us ≡ forms_of ws ++ form_tree f.now ∷ []
forms_push ws us f e = ap forms_of e ∙ map-append (λ (x : Bor code.Form). form_tree x.now) ws (f ∷ [])
