-- The answer step by step is the one whose statement holds, and how answers are put together.
use Rattle.std.proofs.Common.{ℕ, zero, suc, ◌≡◌, ◌+◌, ◌-◌, ◌<◌, ◌≤◌, leb, Bool, true, false, if◌then◌else◌, refl, ap, sym, ◌∙◌, subst, arith, Option, Some, None}
use Rattle.std.proofs.lemmas.Bool.{leb-true, leb-false, le-leb}
use Rattle.normaliser.specs.NormalForm.{Answer, counted, at_limit, before_limit, run, Runs, Outcome}

some_is : {A : Type 0} {a b : A} → ◌≡◌ {A = Option A} (Some a) (Some b) → a ≡ b
some_is e = cc

abbrev pub counted_by : {A : Type 0} → ℕ → Answer A → Answer A
counted_by n (Answer.reached g k) = Answer.reached g (n + k)
counted_by n Answer.spent = Answer.spent
counted_by n (Answer.deep g) = Answer.deep g

above_fails : (a b : ℕ) → b < a → leb a b ≡ false
above_fails a b l = go (leb a b) refl
  where
    go : (x : Bool) → leb a b ≡ x → leb a b ≡ false
    go false e = e
    go true e = let m = leb-true a b e in absurd (omega arith)

module _ {A : Type 0} (next : A → Option A) (deepness : A → ℕ) (bound : ℕ) where
  pub run_starts : {f g : A} {n : ℕ} → Runs next deepness bound f n g → deepness f ≤ bound
  run_starts (Runs.done l) = l
  run_starts (Runs.step l e r) = l

  pub run_ends : {f g : A} {n : ℕ} → Runs next deepness bound f n g → deepness g ≤ bound
  run_ends (Runs.done l) = l
  run_ends (Runs.step l e r) = run_ends r

  -- one step before an answer
  pub after_step : {limit : ℕ} {f g : A} {a : Answer A} → deepness f ≤ bound → next f ≡ Some g → Outcome next deepness bound limit g a → Outcome next deepness bound (suc limit) f (counted a)
  after_step l e (Outcome.reached r d m) = Outcome.reached (Runs.step l e r) d (omega arith)
  after_step l e (Outcome.spent r d) = Outcome.spent (Runs.step l e r) d
  after_step l e (Outcome.deep r m d b) = Outcome.deep (Runs.step l e r) (omega arith) d b

  pub run_has_outcome : (limit : ℕ) (f : A) → deepness f ≤ bound → Outcome next deepness bound limit f (run next deepness bound limit f)
  run_has_outcome zero f l = go (next f) refl
    where
      go : (m : Option A) → next f ≡ m → Outcome next deepness bound zero f (at_limit next deepness bound f m)
      go None e = Outcome.reached (Runs.done l) e (omega arith)
      go (Some g) e = Outcome.spent (Runs.done l) e
  run_has_outcome (suc limit) f l = go (λ g. run_has_outcome limit g) (next f) refl
    where
      go : ((g : A) → deepness g ≤ bound → Outcome next deepness bound limit g (run next deepness bound limit g)) → (m : Option A) → next f ≡ m
          → Outcome next deepness bound (suc limit) f (before_limit next deepness bound (run next deepness bound limit) f m)
      go ih None e = Outcome.reached (Runs.done l) e (omega arith)
      go ih (Some g) e = test (leb (deepness g) bound) refl
        where
          test : (b : Bool) → leb (deepness g) bound ≡ b
              → Outcome next deepness bound (suc limit) f (if b then counted (run next deepness bound limit g) else Answer.deep f)
          test true x = after_step l e (ih g (leb-true (deepness g) bound x))
          test false x = Outcome.deep (Runs.done l) (omega arith) e (leb-false (deepness g) bound x)

  -- what a run answers is what its end answers, counted on
  counted_more : (n : ℕ) (a : Answer A) → counted (counted_by n a) ≡ counted_by (suc n) a
  counted_more n (Answer.reached g k) = ap (Answer.reached g) (omega arith)
  counted_more n Answer.spent = refl
  counted_more n (Answer.deep g) = refl

  none_and : (k : ℕ) → 0 + k ≡ k
  none_and k = omega arith

  counted_zero : (a : Answer A) → counted_by 0 a ≡ a
  counted_zero (Answer.reached g k) = ap (Answer.reached g) (none_and k)
  counted_zero Answer.spent = refl
  counted_zero (Answer.deep g) = refl

  more_limit : (n limit : ℕ) → suc n + limit ≡ suc (n + limit)
  more_limit n limit = omega arith

  pub run_once : (limit : ℕ) (f g : A) → next f ≡ Some g → deepness g ≤ bound → run next deepness bound (suc limit) f ≡ counted (run next deepness bound limit g)
  run_once limit f g e l = rw (e, le-leb (deepness g) bound l)

  pub run_from : {f g : A} {n : ℕ} → Runs next deepness bound f n g → (limit : ℕ) → run next deepness bound (n + limit) f ≡ counted_by n (run next deepness bound limit g)
  run_from (Runs.done {f = f} l) limit = ap (λ k. run next deepness bound k f) (none_and limit) ∙ sym (counted_zero (run next deepness bound limit f))
  run_from (Runs.step {f = f} {g = g} {h = h} {n = n} l e r) limit =
      ap (λ k. run next deepness bound k f) (more_limit n limit) ∙ run_once (n + limit) f g e (run_starts r) ∙ ap counted (run_from r limit) ∙ counted_more n (run next deepness bound limit h)

  pub run_normal : (limit : ℕ) (g : A) → next g ≡ None → run next deepness bound limit g ≡ Answer.reached g 0
  run_normal zero g e = rw e
  run_normal (suc limit) g e = rw e

  run_deep : (limit : ℕ) (g h : A) → next g ≡ Some h → bound < deepness h → run next deepness bound (suc limit) g ≡ Answer.deep g
  run_deep limit g h e l = rw (e, above_fails (deepness h) bound l)

  -- an answer whose statement holds is that of the run, so there is one
  pub outcome_is_run : (limit : ℕ) (f : A) {a : Answer A} → Outcome next deepness bound limit f a → a ≡ run next deepness bound limit f
  outcome_is_run limit f (Outcome.reached {g = g} {n = n} r d m) =
      let split : n + (limit - n) ≡ limit = omega arith in
      let none : n + 0 ≡ n = omega arith in
      sym (ap (λ k. run next deepness bound k f) (sym split) ∙ run_from r (limit - n) ∙ ap (counted_by n) (run_normal (limit - n) g d) ∙ ap (Answer.reached g) none)
  outcome_is_run limit f (Outcome.spent {g = g} {h = h} r d) =
      let split : limit + 0 ≡ limit = omega arith in
      let end : run next deepness bound 0 g ≡ Answer.spent = rw d in
      sym (ap (λ k. run next deepness bound k f) (sym split) ∙ run_from r 0 ∙ ap (counted_by limit) end)
  outcome_is_run limit f (Outcome.deep {g = g} {h = h} {n = n} r m d b) =
      let split : n + suc ((limit - n) - 1) ≡ limit = omega arith in
      sym (ap (λ k. run next deepness bound k f) (sym split) ∙ run_from r (suc ((limit - n) - 1)) ∙ ap (counted_by n) (run_deep ((limit - n) - 1) g h d b))

  -- runs one after the other, and an answer after a run
  pub joined_runs : {f g h : A} {n k : ℕ} → Runs next deepness bound f n g → Runs next deepness bound g k h → Runs next deepness bound f (n + k) h
  joined_runs {h = h} {k = k} (Runs.done {f = f} l) s = subst (λ j. Runs next deepness bound f j h) (sym (none_and k)) s
  joined_runs {h = h} {k = k} (Runs.step {f = f} {n = n} l e r) s = subst (λ j. Runs next deepness bound f j h) (sym (more_limit n k)) (Runs.step l e (joined_runs r s))

  pub after_run : {f g : A} {n limit : ℕ} {a : Answer A} → Runs next deepness bound f n g → n ≤ limit → Outcome next deepness bound (limit - n) g a
      → Outcome next deepness bound limit f (counted_by n a)
  after_run {n = n} {limit = limit} r l (Outcome.reached s d m) = Outcome.reached (joined_runs r s) d (omega arith)
  after_run {f = f} {n = n} {limit = limit} r l (Outcome.spent {g = g} s d) =
      let split : n + (limit - n) ≡ limit = omega arith in
      Outcome.spent (subst (λ j. Runs next deepness bound f j g) split (joined_runs r s)) d
  after_run {n = n} {limit = limit} r l (Outcome.deep s m d b) = Outcome.deep (joined_runs r s) (omega arith) d b

-- a run is one within any larger bound
pub wider_run : {A : Type 0} (next : A → Option A) (deepness : A → ℕ) (b c : ℕ) → b ≤ c → {f g : A} {n : ℕ} → Runs next deepness b f n g → Runs next deepness c f n g
wider_run next deepness b c l (Runs.done d) = Runs.done (omega arith)
wider_run next deepness b c l (Runs.step d e r) = Runs.step (omega arith) e (wider_run next deepness b c l r)

-- an entry of a memo: the normal form, the number of steps, and a bound on the depth of each tree on the way
pub record IsEntry {A : Type 0} (next : A → Option A) (deepness : A → ℕ) (f g : A) (n b : ℕ) : Type 0 where
  pub runs : Runs next deepness b f n g
  pub normal : next g ≡ None

-- it may be used where its count is within the limit and its bound within the bound
pub entry_answers : {A : Type 0} (next : A → Option A) (deepness : A → ℕ) (bound limit : ℕ) (f g : A) (n b : ℕ) → IsEntry next deepness f g n b → n ≤ limit → b ≤ bound
    → Outcome next deepness bound limit f (Answer.reached g n)
entry_answers next deepness bound limit f g n b e l m = Outcome.reached (wider_run next deepness b bound m e.runs) e.normal l

-- a place: the step there is the step of the whole, and the whole is within its bound where the place is within its own
module _ {A B : Type 0} (next : A → Option A) (deepness : A → ℕ) (bound : ℕ) (next_of : B → Option B) (deepness_of : B → ℕ) (bound_of : ℕ) (whole : A → B)
    (steps : (f g : A) → next f ≡ Some g → next_of (whole f) ≡ Some (whole g))
    (within : (f : A) → deepness f ≤ bound → deepness_of (whole f) ≤ bound_of) where
  pub run_of_whole : {f g : A} {n : ℕ} → Runs next deepness bound f n g → Runs next_of deepness_of bound_of (whole f) n (whole g)
  run_of_whole (Runs.done {f = f} l) = Runs.done (within f l)
  run_of_whole (Runs.step {f = f} {g = g} l e r) = Runs.step (within f l) (steps f g e) (run_of_whole r)

  -- an answer that stops the place stops the whole
  pub spent_of_whole : (limit : ℕ) (f : A) → Outcome next deepness bound limit f Answer.spent → Outcome next_of deepness_of bound_of limit (whole f) Answer.spent
  spent_of_whole limit f (Outcome.spent {g = g} {h = h} r d) = Outcome.spent (run_of_whole r) (steps g h d)

  pub deep_of_whole : (limit : ℕ) (f p : A) → ((f : A) → bound < deepness f → bound_of < deepness_of (whole f)) → Outcome next deepness bound limit f (Answer.deep p)
      → Outcome next_of deepness_of bound_of limit (whole f) (Answer.deep (whole p))
  deep_of_whole limit f p beyond (Outcome.deep {h = h} r l d b) = Outcome.deep (run_of_whole r) l (steps p h d) (beyond h b)
