-- What a normaliser keeps answers as the steps do one by one, stays right while the store grows, and is what was reached.
use Rattle.std.proofs.Common.{ℕ, zero, suc, ◌≡◌, ◌<◌, ◌≤◌, leb, cond, nat_eq, Bool, true, false, if◌then◌else◌, refl, ap, sym, ◌∙◌, subst, inl, inr, arith, List, [], Option, Some, None}
use Rattle.std.specs.Map.{lookup}
use Rattle.std.proofs.lemmas.Bool.{leb-true}
use Rattle.std.proofs.lemmas.Bool.Decides.{eqb_tells}
use Rattle.indexmap.specs.IndexMap.{IndexMap, get}
use Rattle.zm_logic.specs.Tree.{Form, Rule, Symbol}
use Rattle.zm_logic.specs.Measure.{depth}
use Rattle.zm_logic.specs.Typing.{WellTyped}
use Rattle.term_store.specs.declared.ids.FormId.{FormId}
use Rattle.term_store.specs.Trees.{Tables, HasForm, form_of, Extends}
use Rattle.term_store.proofs.Kept.{still_form, kept_form}
use Rattle.term_store.proofs.Equal.{same_form}
use Rattle.rule_index.specs.Usable.{AreUsable}
use Rattle.normaliser.specs.NextStep.{next_step}
use Rattle.normaliser.specs.NormalForm.{Answer, counted, at_limit, before_limit, run, normal_form}
use Rattle.normaliser.specs.Meaning.{KeepsTyping, Meets}
use Rattle.normaliser.specs.Kept.{same_id, IsReached, normaliser_rules, Knows}
use Rattle.normaliser.specs.declared.keeping.Normaliser.{Normaliser}
use Rattle.normaliser.proofs.Outcomes.{run_normal, run_once}
use Rattle.normaliser.proofs.Meets.{normal_form_meets}

module _ {A : Type 0} (next : A → Option A) (deepness : A → ℕ) (bound : ℕ) where
  -- n steps lead to the normal form: what is answered within a limit
  abbrev pub Answers : A → A → ℕ → ℕ → Type 0
  Answers f g n k = (n ≤ k → run next deepness bound k f ≡ Answer.reached g n) × (k < n → run next deepness bound k f ≡ Answer.spent)

  answers_normal : (f g : A) (n k : ℕ) → next f ≡ None → Answer.reached f 0 ≡ Answer.reached g n → Answers f g n k
  answers_normal f g n k e r =
      let z : n ≡ 0 = cc in
      (λ l. run_normal next deepness bound k f e ∙ r, λ l. absurd (omega (arith, l, z)))

  answers_once : (f h g : A) (n : ℕ) → next f ≡ Some h → deepness h ≤ bound → ((j : ℕ) → Answers h g n j) → (k : ℕ) → Answers f g (suc n) k
  answers_once f h g n e d r zero = (λ l. absurd (omega arith), λ l. rw e)
  answers_once f h g n e d r (suc j) = (
    λ l. run_once next deepness bound j f h e d ∙ ap counted ((r j).0 (omega arith)),
    λ l. run_once next deepness bound j f h e d ∙ ap counted ((r j).1 (omega arith)),
  )

  counted_reached : (f h g : A) (n : ℕ) (a : Answer A) → next f ≡ Some h → deepness h ≤ bound
      → ((g : A) (n : ℕ) → a ≡ Answer.reached g n → (j : ℕ) → Answers h g n j) → counted a ≡ Answer.reached g n → (k : ℕ) → Answers f g n k
  counted_reached f h g n (Answer.reached x m) e d ih r k =
      let same : x ≡ g = cc in
      let more : suc m ≡ n = cc in
      subst (λ i. Answers f g i k) more (subst (λ z. Answers f z (suc m) k) same (answers_once f h x m e d (ih x m refl) k))
  counted_reached f h g n Answer.spent e d ih r k = cc
  counted_reached f h g n (Answer.deep x) e d ih r k = cc

  -- what is reached within one limit is reached within each that isn't less than the count; below it, more steps can be made
  pub answers_always : (limit : ℕ) (f g : A) (n : ℕ) → run next deepness bound limit f ≡ Answer.reached g n → (k : ℕ) → Answers f g n k
  answers_always zero f g n r k = go (next f) refl r
    where
      go : (m : Option A) → next f ≡ m → at_limit next deepness bound f m ≡ Answer.reached g n → Answers f g n k
      go None e r = answers_normal f g n k e r
      go (Some h) e r = cc
  answers_always (suc limit) f g n r k = go (λ h. answers_always limit h) (next f) refl r
    where
      go : ((h g : A) (n : ℕ) → run next deepness bound limit h ≡ Answer.reached g n → (j : ℕ) → Answers h g n j) → (m : Option A) → next f ≡ m
          → before_limit next deepness bound (run next deepness bound limit) f m ≡ Answer.reached g n → Answers f g n k
      go ih None e r = answers_normal f g n k e r
      go ih (Some h) e r = test (leb (deepness h) bound) refl r
        where
          test : (b : Bool) → leb (deepness h) bound ≡ b
              → (if b then counted (run next deepness bound limit h) else Answer.deep f) ≡ Answer.reached g n → Answers f g n k
          test true x r = counted_reached f h g n (run next deepness bound limit h) e (leb-true (deepness h) bound x) (ih h) r k
          test false x r = cc

module _ (rules : List Rule) where
  reached_answers : (f g : Form) (n limit k : ℕ) → normal_form rules limit f ≡ Answer.reached g n → Answers (next_step rules) depth 2000 f g n k
  reached_answers f g n limit k e = answers_always (next_step rules) depth 2000 limit f g n e k

  -- what is kept answers within every limit
  pub kept_answers : (s : Tables) (form normal : FormId) (steps limit : ℕ) → IsReached rules s form normal steps → steps ≤ limit
      → Answer.reached (form_of s normal) steps ≡ normal_form rules limit (form_of s form)
  kept_answers s form normal steps limit h l = sym ((reached_answers (form_of s form) (form_of s normal) steps steps limit h.exact).0 l)

  pub kept_spent : (s : Tables) (form normal : FormId) (steps limit : ℕ) → IsReached rules s form normal steps → limit < steps
      → Answer.spent ≡ normal_form rules limit (form_of s form)
  kept_spent s form normal steps limit h l = sym ((reached_answers (form_of s form) (form_of s normal) steps steps limit h.exact).1 l)

  -- what is answered for the formula of an earlier store may be kept
  pub is_reached : (s t : Tables) (form normal : FormId) (steps limit : ℕ) → Extends s t → HasForm s form → HasForm t normal
      → Answer.reached (form_of t normal) steps ≡ normal_form rules limit (form_of s form) → IsReached rules t form normal steps
  is_reached s t form normal steps limit x h m e = record {
    has = still_form s t x form h;
    has_normal = m;
    exact =
        ap (normal_form rules steps) (kept_form s t x form h)
        ∙ (reached_answers (form_of s form) (form_of t normal) steps limit steps (sym e)).0 (omega arith);
  }

  -- and stays right
  still_reached : (s t : Tables) (form normal : FormId) (steps : ℕ) → Extends s t → IsReached rules s form normal steps → IsReached rules t form normal steps
  still_reached s t form normal steps x h = record {
    has = still_form s t x form h.has;
    has_normal = still_form s t x normal h.has_normal;
    exact =
        ap (normal_form rules steps) (kept_form s t x form h.has)
        ∙ h.exact
        ∙ ap (λ g. Answer.reached g steps) (sym (kept_form s t x normal h.has_normal));
  }

  -- the answer is what the relation of steps says
  pub answer_meets : (limit : ℕ) (f : Form) (a : Answer Form) → depth f ≤ 2000 → a ≡ normal_form rules limit f
      → (symbols : List Symbol) → AreUsable rules → KeepsTyping symbols rules → WellTyped symbols f → Meets rules limit f a
  answer_meets limit f a d e symbols ok keep w = subst (Meets rules limit f) (sym e) (normal_form_meets symbols rules ok keep limit f w d)

pub knows_stays : (s t : Tables) (n : Normaliser) → Extends s t → Knows s n → Knows t n
knows_stays s t n x h = λ i r e. still_reached (normaliser_rules n) s t i r.0 r.1 x (h i r e)

-- nothing is kept at first
pub nothing_kept : (n : Normaliser) → n.kept.entries ≡ [] → (s : Tables) → Knows s n
nothing_kept n e s = λ i r k. (let h = ap (lookup (λ (y : FormId). nat_eq i.0 y.0)) e in absurd (cc))

-- nothing more is kept
pub none_kept : {S : Type 0} (P : FormId → FormId × ℕ → Type 0) (old new : IndexMap FormId (FormId × ℕ) S) → new.entries ≡ old.entries
    → ((i : FormId) (j : FormId × ℕ) → get same_id old i ≡ Some j → P i j) → (i : FormId) (j : FormId × ℕ) → get same_id new i ≡ Some j → P i j
none_kept P old new u h i j e = h i j (sym (ap (lookup (λ (y : FormId). nat_eq i.0 y.0)) u) ∙ e)

-- one formula more is kept
pub one_kept : {S : Type 0} (P : FormId → FormId × ℕ → Type 0) (old new : IndexMap FormId (FormId × ℕ) S) (k : FormId) (r : FormId × ℕ)
    → ((q : FormId) → get same_id new q ≡ cond (nat_eq k.0 q.0) (Some r) (get same_id old q))
    → ((i : FormId) (j : FormId × ℕ) → get same_id old i ≡ Some j → P i j) → P k r
    → (i : FormId) (j : FormId × ℕ) → get same_id new i ≡ Some j → P i j
one_kept P old new k r u h p i j e =
    elim (eqb_tells k.0 i.0) [
      | inl x ↦ (let f : k ≡ i = same_form k i x.1 in
          let g = sym e ∙ u i ∙ ap (λ b. cond b (Some r) (get same_id old i)) x.0 in
          let w : j ≡ r = cc in
          subst (λ z. P z j) f (subst (P k) (sym w) p))
      | inr x ↦ (let f = u i ∙ ap (λ b. cond b (Some r) (get same_id old i)) x.0 in h i j (sym f ∙ e))
    ]
