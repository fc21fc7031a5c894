-- Tasks in a row: what the first of them come to, and what all of them come to.
use Rattle.std.proofs.Common.{ℕ, ◌≡◌, ◌+◌, ◌<◌, ◌&&◌, inl, inr, nat_eq, cond, Bool, true, false, List, [], ◌∷◌, ◌++◌, append-nil, refl, ap, sym, subst, ◌∙◌, arith}
use Rattle.std.proofs.lemmas.Bool.Decides.{eqb_tells}
use Rattle.std.specs.List.{list_any}
use Rattle.indexmap.specs.IndexSet.{IndexSet, contains}
use Rattle.term_store.specs.Trees.{Tables, type_of, term_of}
use Rattle.unify.specs.Substitution.{Substitution}
use Rattle.unify.specs.Binding as trees
use Rattle.unify.specs.Binding.{solved_type, solved_term, unifier}
use Rattle.unify.specs.Solution.{Agrees}
use Rattle.unify.specs.Unification.{Unifies}
use Rattle.unify.specs.Metas.{unbound}
use Rattle.unify.specs.Pending.{Each, IsMarked}
use Rattle.unify.specs.View.{latest}
use Rattle.unify.specs.Task.{marks, weights, same_pair, HasTask, equations, AsksTask, GivesTask, Knows, IsState, SameOutcome, GivesWay, MakesBinding, Clash}
use Rattle.unify.specs.declared.binding.Binding.{Binding}
use Rattle.term_store.specs.declared.ids.TyId.{TyId}
use Rattle.term_store.specs.declared.ids.TermId.{TermId}
use Rattle.unify.specs.declared.task.Task.{Task}
use Rattle.unify.specs.declared.task.Task.TheVariants.{Types, Terms, TypesDone, TermsDone}
use Rattle.unify.specs.declared.task.Pair.{Pair}
use Rattle.unify.specs.declared.task.Known.{Known}
use Rattle.unify.proofs.Inverted.{same_after, same_itself}
use Rattle.unify.proofs.TaskLists.{pending_more, marks_more}
use Rattle.unify.proofs.Waiting.{each_first, marked_last, marked_swap}
use Rattle.unify.proofs.Unifier.{put_unifier_type, put_unifier_term, unifier_agrees}

abbrev pub pair_of : ℕ → ℕ → Pair
pair_of m n = record { left = m; right = n }

-- a set of pairs with one more
pub pair_more : {S : Type 0} (P : Pair → Type 0) (old new : IndexSet Pair S) (k : Pair)
    → ((q : Pair) → contains same_pair new q ≡ cond (same_pair k q) true (contains same_pair old q))
    → ((q : Pair) → contains same_pair old q ≡ true → P q) → P k → (q : Pair) → contains same_pair new q ≡ true → P q
pair_more P old new k u h p q e =
    elim (eqb_tells k.left q.left) [
      | inl x ↦ elim (eqb_tells k.right q.right) [
        | inl y ↦ (let f : k ≡ q = pairs x.1 y.1 in subst P f p)
        | inr y ↦ other (ap (λ (b : Bool). b && nat_eq k.right q.right) x.0 ∙ y.0)
      ]
      | inr x ↦ other (ap (λ (b : Bool). b && nat_eq k.right q.right) x.0)
    ]
  where
    pairs : k.left ≡ q.left → k.right ≡ q.right → k ≡ q
    pairs x y = ap (λ (n : ℕ). pair_of n k.right) x ∙ ap (λ (n : ℕ). pair_of q.left n) y

    other : same_pair k q ≡ false → P q
    other z = let f = u q ∙ ap (λ (b : Bool). cond b true (contains same_pair old q)) z in h q (sym f ∙ e)

module _ (s : Tables) (made : List Binding) (known more : Known) (rest : List Task) where
  abbrev bs : List trees.Binding
  bs = latest s made

  -- a mark is taken
  done : (task : Task) → IsState s made known (rest ++ task ∷ []) → equations s (rest ++ task ∷ []) ≡ equations s rest → marks (task ∷ []) ≡ 1
      → ((a : (x : Substitution) × Agrees x bs) → AsksTask s bs a task) → Knows s bs more → GivesWay s made (rest ++ task ∷ []) more rest
  done task l is one_mark asks k =
      let A = AsksTask s bs in let G = GivesTask s bs in let one : List Task = task ∷ [] in
      let w = ap (weights bs) is in let m = marks_more rest one in
      record {
        state = record {
          have = l.have;
          lawful = l.lawful;
          known = k;
          tasks = each_first (HasTask s) rest one l.tasks;
          marked = subst (IsMarked A G) (append-nil rest) (marked_swap A G one [] (λ a z. (asks a, tt)) tt rest l.marked);
        };
        outcome = subst (λ fs. SameOutcome bs fs bs (equations s rest)) (sym is) (same_itself bs (equations s rest));
        lighter = omega (arith, w, m, one_mark);
        fewer = subst (λ fs. unbound bs (equations s rest) < unbound bs fs + 1) (sym is) (omega arith);
      }

module _ (s : Tables) (made : List Binding) (known : Known) (rest : List Task) where
  pub types_noted : (i j : TyId) → IsState s made known (rest ++ TypesDone i j ∷ []) → solved_type (latest s made) (type_of s i) ≡ solved_type (latest s made) (type_of s j)
  types_noted i j l =
      let bs = latest s made in
      let g = (marked_last (AsksTask s bs) (GivesTask s bs) rest (TypesDone i j ∷ []) l.marked).0 (unifier bs, unifier_agrees bs l.lawful) tt in
      sym (put_unifier_type bs (type_of s i)) ∙ g ∙ put_unifier_type bs (type_of s j)

  pub terms_noted : (i j : TermId) → IsState s made known (rest ++ TermsDone i j ∷ []) → solved_term (latest s made) (term_of s i) ≡ solved_term (latest s made) (term_of s j)
  terms_noted i j l =
      let bs = latest s made in
      let g = (marked_last (AsksTask s bs) (GivesTask s bs) rest (TermsDone i j ∷ []) l.marked).0 (unifier bs, unifier_agrees bs l.lawful) tt in
      sym (put_unifier_term bs (term_of s i)) ∙ g ∙ put_unifier_term bs (term_of s j)

  pub types_done : (more : Known) (i j : TyId) → IsState s made known (rest ++ TypesDone i j ∷ []) → Knows s (latest s made) more → GivesWay s made (rest ++ TypesDone i j ∷ []) more rest
  types_done more i j l k = done s made known more rest (TypesDone i j) l (pending_more s [] rest (TypesDone i j ∷ [])) refl (λ a. tt) k

  pub terms_done : (more : Known) (i j : TermId) → IsState s made known (rest ++ TermsDone i j ∷ []) → Knows s (latest s made) more → GivesWay s made (rest ++ TermsDone i j ∷ []) more rest
  terms_done more i j l k = done s made known more rest (TermsDone i j) l (pending_more s [] rest (TermsDone i j ∷ [])) refl (λ a. tt) k

-- the tasks that are left have the outcome of those at the start
module _ (s : Tables) (made : List Binding) (start : List Task) where
  pub record Onward (known : Known) (tasks : List Task) : Type 0 where
    pub state : IsState s made known tasks
    pub outcome : SameOutcome (latest s made) (equations s start) (latest s made) (equations s tasks)
    pub fewer : unbound (latest s made) (equations s tasks) < unbound (latest s made) (equations s start) + 1

  pub onward_goes : (known more : Known) (tasks before after : List Task) → tasks ≡ before → Onward known tasks → GivesWay s made before more after → Onward more after
  onward_goes known more tasks before after e o g =
      let p = subst (Onward known) e o in
      record { state = g.state; outcome = same_after p.outcome g.outcome; fewer = omega (arith, p.fewer, g.fewer) }

  pub onward_binds : (known more : Known) (tasks before after : List Task) (b : Binding) → tasks ≡ before → Onward known tasks → MakesBinding s made before b more after
      → MakesBinding s made start b more after
  onward_binds known more tasks before after b e o g =
      let p = subst (Onward known) e o in
      record { state = g.state; outcome = same_after p.outcome g.outcome; fewer = omega (arith, p.fewer, g.fewer) }

  pub onward_clashes : (known : Known) (tasks before : List Task) → tasks ≡ before → Onward known tasks → Clash s made before → Clash s made start
  onward_clashes known tasks before e o c = λ all u. c all ((subst (Onward known) e o).outcome.there all u)

  pub onward_done : (known : Known) (tasks : List Task) → tasks ≡ [] → Onward known tasks → Unifies (latest s made) (equations s start) (latest s made)
  onward_done known tasks e o = (subst (Onward known) e o).outcome.back (latest s made) Unifies.done

pub onward_starts : (s : Tables) (made : List Binding) (known : Known) (tasks : List Task) → IsState s made known tasks → Onward s made tasks known tasks
onward_starts s made known tasks l = record { state = l; outcome = same_itself (latest s made) (equations s tasks); fewer = omega arith }

-- all bindings so far
module _ (s : Tables) (start : List Task) where
  pub record Far (made : List Binding) (known : Known) (tasks : List Task) : Type 0 where
    pub state : IsState s made known tasks
    pub outcome : SameOutcome [] (equations s start) (latest s made) (equations s tasks)

  pub far_binds : (made : List Binding) (known more : Known) (tasks after : List Task) (b : Binding) → Far made known tasks → MakesBinding s made tasks b more after
      → Far (made ++ b ∷ []) more after
  far_binds made known more tasks after b o g = record { state = g.state; outcome = same_after o.outcome g.outcome }

  pub far_clashes : (made : List Binding) (known : Known) (tasks : List Task) → Far made known tasks → Clash s made tasks → (all : List trees.Binding) → Unifies [] (equations s start) all → ⊥
  far_clashes made known tasks o c = λ all u. c all (o.outcome.there all u)

  pub far_done : (made : List Binding) (known : Known) (tasks : List Task) → Far made known tasks → Unifies (latest s made) (equations s tasks) (latest s made)
      → Unifies [] (equations s start) (latest s made)
  far_done made known tasks o u = o.outcome.back (latest s made) u

-- no pairs are known at first
none_known : {S : Type 0} (known : IndexSet Pair S) (q : Pair) → known.keys ≡ [] → contains same_pair known q ≡ true → ⊥
none_known known q e h = let f : contains same_pair known q ≡ false = ap (λ ks. list_any (same_pair q) ks) e in cc

unmarked_at : (s : Tables) (bs : List trees.Binding) (tasks : List Task) → marks tasks ≡ 0 → IsMarked (AsksTask s bs) (GivesTask s bs) tasks
unmarked_at s bs [] e = tt
unmarked_at s bs (Types i j ∷ ts) e = ((λ a h. tt), unmarked_at s bs ts e)
unmarked_at s bs (Terms i j ∷ ts) e = ((λ a h. tt), unmarked_at s bs ts e)
unmarked_at s bs (TypesDone i j ∷ ts) e = absurd (omega arith)
unmarked_at s bs (TermsDone i j ∷ ts) e = absurd (omega arith)

pub far_starts : (s : Tables) (made : List Binding) (known : Known) (tasks : List Task) → made ≡ [] → known.types.keys ≡ [] → known.terms.keys ≡ []
    → Each (HasTask s) tasks → marks tasks ≡ 0 → Far s tasks made known tasks
far_starts s made known tasks e f g has m =
    subst (λ xs. Far s tasks xs known tasks) (sym e)
    (record {
      state = record {
        have = λ k d l. absurd (omega arith);
        lawful = tt;
        known = record { types = λ q h. absurd (none_known known.types q f h); terms = λ q h. absurd (none_known known.terms q g h) };
        tasks = has;
        marked = unmarked_at s [] tasks m;
      };
      outcome = same_itself [] (equations s tasks);
    })
