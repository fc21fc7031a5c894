-- What one task comes to, whatever its kind.
use Rattle.std.proofs.Common.{◌≡◌, ◌+◌, ◌<◌, List, [], ◌∷◌, ◌++◌, append-nil, ap, sym, subst, ◌∙◌, arith}
use Rattle.std.proofs.lemmas.List.Elements.{All-push}
use Rattle.term_store.specs.Trees.{Tables, type_of, term_of}
use Rattle.unify.specs.Substitution.{Substitution, put_type, put_term}
use Rattle.unify.specs.Equation.{Equation, Solves}
use Rattle.unify.specs.Binding as trees
use Rattle.unify.specs.Solution.{IsSolved, Agrees}
use Rattle.unify.specs.Unification.{AreSame, Binds, Splits}
use Rattle.unify.specs.Lawful.{AreLawful}
use Rattle.unify.specs.Metas.{unbound}
use Rattle.unify.specs.Pending.{Each, AllAsked, IsMarked}
use Rattle.unify.specs.View.{HasBinding, binding_of, latest}
use Rattle.unify.specs.Task.{marks, weight, weights, HasTask, equations, pending, AsksTask, GivesTask, Knows, load, IsState, SameOutcome, GivesWay, MakesBinding}
use Rattle.unify.specs.declared.binding.Binding.{Binding}
use Rattle.unify.specs.declared.task.Task.{Task}
use Rattle.unify.specs.declared.task.Task.TheVariants.{Types, Terms, TypesDone, TermsDone}
use Rattle.unify.specs.declared.task.Known.{Known}
use Rattle.unify.proofs.Solved.{agrees_type, agrees_term}
use Rattle.unify.proofs.General.{one_more, lawful_more, bound_solved}
use Rattle.unify.proofs.End.{heavy, splits_less}
use Rattle.unify.proofs.Fewer.{fewer_dropped, fewer_split, fewer_bound}
use Rattle.unify.proofs.Inverted.{solved_outcome, bound_outcome, split_outcome}
use Rattle.unify.proofs.HeadSteps.{latest_push}
use Rattle.unify.proofs.TaskLists.{marks_more, pending_more}
use Rattle.unify.proofs.Waiting.{each_first, each_both, marked_swap}

-- a substitution that solves the bindings solves what holds under them
pub solved_solves : (a : Substitution) (bs : List trees.Binding) → Agrees a bs → (e : Equation) → IsSolved bs e → Solves a e
solved_solves a bs g (Equation.of_types s t) h = sym (agrees_type a bs g s) ∙ ap (put_type a) h ∙ agrees_type a bs g t
solved_solves a bs g (Equation.of_terms s t) h = sym (agrees_term a bs g s) ∙ ap (put_term a) h ∙ agrees_term a bs g t

-- a substitution that solves one binding more
pub fewer_agree : (a : Substitution) (b : trees.Binding) (bs : List trees.Binding) → Agrees a (b ∷ bs) → Agrees a bs
fewer_agree a (trees.Binding.of_type m u) bs g = g.1
fewer_agree a (trees.Binding.of_term m k u) bs g = g.1

-- marks that are right stay so under more bindings
module _ (s : Tables) (bs : List trees.Binding) (b : trees.Binding) where
  abbrev pub earlier : ((a : Substitution) × Agrees a (b ∷ bs)) → (a : Substitution) × Agrees a bs
  earlier a = (a.0, fewer_agree a.0 b bs a.1)

  gives_later : (a : (x : Substitution) × Agrees x (b ∷ bs)) (t : Task) → GivesTask s bs (earlier a) t → GivesTask s (b ∷ bs) a t
  gives_later a (Types i j) h = h
  gives_later a (Terms i j) h = h
  gives_later a (TypesDone i j) h = h
  gives_later a (TermsDone i j) h = h

  asks_one : (a : (x : Substitution) × Agrees x (b ∷ bs)) (t : Task) → AsksTask s (b ∷ bs) a t → AsksTask s bs (earlier a) t
  asks_one a (Types i j) h = h
  asks_one a (Terms i j) h = h
  asks_one a (TypesDone i j) h = h
  asks_one a (TermsDone i j) h = h

  pub still : (a : (x : Substitution) × Agrees x (b ∷ bs)) (t : Task) → AsksTask s bs (earlier a) t → AsksTask s (b ∷ bs) a t
  still a (Types i j) h = h
  still a (Terms i j) h = h
  still a (TypesDone i j) h = h
  still a (TermsDone i j) h = h

  asks_all : (a : (x : Substitution) × Agrees x (b ∷ bs)) (ts : List Task)
      → AllAsked (AsksTask s (b ∷ bs)) (GivesTask s (b ∷ bs)) a ts → AllAsked (AsksTask s bs) (GivesTask s bs) (earlier a) ts
  asks_all a [] h = tt
  asks_all a (t ∷ ts) h = (asks_one a t h.0, asks_all a ts h.1)

  marked_later : (ts : List Task) → IsMarked (AsksTask s bs) (GivesTask s bs) ts → IsMarked (AsksTask s (b ∷ bs)) (GivesTask s (b ∷ bs)) ts
  marked_later [] h = tt
  marked_later (t ∷ ts) h = (λ a k. gives_later a t (h.0 (earlier a) (asks_all a ts k)), marked_later ts h.1)

knows_later : (s : Tables) (bs : List trees.Binding) (b : trees.Binding) (known : Known) → Knows s bs known → Knows s (b ∷ bs) known
knows_later s bs b known k = record {
  types = λ p h. one_more b bs (Equation.of_types (type_of s (record { 0 = p.left })) (type_of s (record { 0 = p.right }))) (k.types p h);
  terms = λ p h. one_more b bs (Equation.of_terms (term_of s (record { 0 = p.left })) (term_of s (record { 0 = p.right }))) (k.terms p h);
}

module _ (s : Tables) (made : List Binding) (known : Known) (rest : List Task) (task : Task) (e : Equation)
    (is : equations s (rest ++ task ∷ []) ≡ e ∷ equations s rest) (no_mark : marks (task ∷ []) ≡ 0) (l : IsState s made known (rest ++ task ∷ [])) where
  abbrev bs : List trees.Binding
  bs = latest s made

  abbrev es : List Equation
  es = equations s rest

  before_load : load s bs (rest ++ task ∷ []) ≡ (weight bs e + weights bs es) + marks rest
  before_load =
      let f = ap (weights bs) is in let g = marks_more rest (task ∷ []) in omega (arith, f, g, no_mark)

  -- it holds
  pub goes_solved : ((a : (x : Substitution) × Agrees x bs) → Solves a.0 e → AsksTask s bs a task) → IsSolved bs e
      → GivesWay s made (rest ++ task ∷ []) known rest
  goes_solved asks h =
      let A = AsksTask s bs in let G = GivesTask s bs in let one : List Task = task ∷ [] in
      record {
        state = record {
          have = l.have;
          lawful = l.lawful;
          known = l.known;
          tasks = each_first (HasTask s) rest one l.tasks;
          marked = subst (IsMarked A G) (append-nil rest) (marked_swap A G one [] (λ a z. (asks a (solved_solves a.0 bs a.1 e h), tt)) tt rest l.marked);
        };
        outcome = subst (λ fs. SameOutcome bs fs bs es) (sym is) (solved_outcome bs e es l.lawful h);
        lighter = omega (arith, before_load, heavy bs e);
        fewer = subst (λ fs. unbound bs es < unbound bs fs + 1) (sym is) (fewer_dropped bs e es);
      }

  -- it makes a binding
  pub goes_bound : ((a : (x : Substitution) × Agrees x bs) → Solves a.0 e → AsksTask s bs a task) → (b : Binding) → HasBinding s b
      → ¬ AreSame bs e → Binds bs e (binding_of s b) → MakesBinding s made (rest ++ task ∷ []) b known rest
  goes_bound asks b has n h =
      let c = binding_of s b in
      let cs : List trees.Binding = c ∷ bs in
      let q : latest s (made ++ b ∷ []) ≡ cs = latest_push s [] made b in
      let A = AsksTask s cs in let G = GivesTask s cs in let one : List Task = task ∷ [] in
      let later = marked_later s bs c (rest ++ one) l.marked in
      let solved = bound_solved bs l.lawful h in
      record {
        state = record {
          have = All-push (HasBinding s) made b l.have has;
          lawful = subst AreLawful (sym q) (lawful_more bs l.lawful h);
          known = subst (λ xs. Knows s xs known) (sym q) (knows_later s bs c known l.known);
          tasks = each_first (HasTask s) rest one l.tasks;
          marked = subst (λ xs. IsMarked (AsksTask s xs) (GivesTask s xs) rest) (sym q)
              (subst (IsMarked A G) (append-nil rest)
              (marked_swap A G one [] (λ a z. (still s bs c a task (asks (earlier s bs c a) (solved_solves a.0 cs a.1 e solved)), tt)) tt rest later));
        };
        outcome = subst (λ fs. SameOutcome bs fs (latest s (made ++ b ∷ [])) es) (sym is)
            (subst (λ xs. SameOutcome bs (e ∷ es) xs es) (sym q) (bound_outcome bs e es n h));
        fewer = subst (λ fs. unbound (latest s (made ++ b ∷ [])) es < unbound bs fs) (sym is)
            (subst (λ xs. unbound xs es < unbound bs (e ∷ es)) (sym q) (fewer_bound bs l.lawful es h));
      }

  -- it gives way to its parts
  pub goes_split : (more : List Task) (after : List Task) → after ≡ rest ++ more → ¬ AreSame bs e → Splits bs e es (pending s es more) → marks more ≡ 1
      → ((a : (x : Substitution) × Agrees x bs) → AllAsked (AsksTask s bs) (GivesTask s bs) a more → AsksTask s bs a task)
      → IsMarked (AsksTask s bs) (GivesTask s bs) more → Each (HasTask s) more → GivesWay s made (rest ++ task ∷ []) known after
  goes_split more after q n h m asks right has =
      let A = AsksTask s bs in let G = GivesTask s bs in let one : List Task = task ∷ [] in
      let p = pending_more s [] rest more in
      let w = splits_less bs l.lawful h in
      let v = ap (weights bs) p in let u = marks_more rest more in
      subst (GivesWay s made (rest ++ task ∷ []) known) (sym q)
      (record {
        state = record {
          have = l.have;
          lawful = l.lawful;
          known = l.known;
          tasks = each_both (HasTask s) rest more (each_first (HasTask s) rest one l.tasks) has;
          marked = marked_swap A G one more (λ a z. (asks a z, tt)) right rest l.marked;
        };
        outcome = subst (λ fs. SameOutcome bs fs bs (equations s (rest ++ more))) (sym is)
            (subst (λ fs. SameOutcome bs (e ∷ es) bs fs) (sym p) (split_outcome bs e es n h));
        lighter = omega (arith, before_load, w, v, u, m);
        fewer = subst (λ fs. unbound bs (equations s (rest ++ more)) < unbound bs fs + 1) (sym is)
            (subst (λ fs. unbound bs fs < unbound bs (e ∷ es) + 1) (sym p) (fewer_split bs l.lawful h));
      })
