-- Branches: what stands for the formulas of a sequent on the way to a leaf of a derivation.
use Rattle.std.proofs.Common.{ℕ, suc, ◌≡◌, ◌⊎◌, inl, inr, true, List, [], ◌∷◌, All, Contains, sym, subst}
use Rattle.lp_terms.specs.Term.{Lp}
use Rattle.lp_terms.specs.Signature.{Extends}
use Rattle.lp_terms.specs.Reduction.{Converts}
use Rattle.lp_terms.specs.Typing.{Context, Binds, Class, IsSort, Has}
use Rattle.lp_terms.specs.Typing as ty
use Rattle.lp_terms.proofs.Substitution.{weaken_bind, convert_argument}
use Rattle.zm_logic.specs.Tree.{Ty, Form}
use Rattle.zm_logic.specs.Parameter.{EachInType, IsNot, IsFresh, IsFreshForAll}
use Rattle.zm_logic.specs.Typing.{IsType, WellTyped}
use Rattle.zm_logic.proofs.Sames.{Contains-here, Contains-there, Contains-cases, Contains-none}
use Rattle.lp_signature.specs.Prelude.{prop, prf, types, term, imp_of, symbols}
use Rattle.lp_signature.specs.Translation.{Scope, type_of, form_of}
use Rattle.lp_signature.specs.Scoped.{Avoids, Fits}
use Rattle.lp_signature.proofs.Logic as logic
use Rattle.lp_signature.proofs.Readings.{form_kept, form_kept_ty}
use Rattle.lp_signature.proofs.TypedTrees.{fits_term, fits_type}
use Rattle.lp_signature.proofs.Rules as rule
use Rattle.lp_signature.proofs.Rules.{IsAbove, above_bind}
use Rattle.lp_translation.specs.ProofOf.{Hypotheses, proves, earliest, also}
use Rattle.lp_translation.proofs.HypothesesProve.{Each, each_weaker, each_more, proves_more, proves_older, each_earliest, each_also, proves_also, proves_new}
use Rattle.lp_translation.proofs.Writings.{HasClosedTypes, Setting, type_typed, form_typed, fits_weak}

pub each_of : {A : Type 0} (P : A → Type 0) (fs : List A) → All P fs → (f : A) → Contains fs f → P f
each_of P fs all f (k, h, e) = subst P e (all k f h)

pub fresh_member : (n : ℕ) (f : Form) (fs : List Form) → IsFreshForAll n fs → Contains fs f → IsFresh n f
fresh_member n f [] h i = absurd (Contains-none f i)
fresh_member n f (x ∷ xs) h i = go (Contains-cases x xs f i) (λ j. fresh_member n f xs h.1 j)
  where
    go : (x ≡ f) ⊎ Contains xs f → (Contains xs f → IsFresh n f) → IsFresh n f
    go (inl e) later = subst (IsFresh n) e h.0
    go (inr j) later = later j

module _ (x : Setting) where
  abbrev pub sh : Extends symbols x.sigma
  sh = rule.symbols_hold x.sigma x.holds x.unbound

  -- h proves a formula of the sequent
  abbrev pub ProvesOf : List Form → Context → Scope → Form → Lp → Type 0
  ProvesOf gamma c s f h = Contains gamma f × Has x.sigma c h (Class.of (prf (form_of x.ss s f)))

  -- A branch: the variables' numbers are below d, the scope's parameters are read in the context, the sequent's formulas
  -- are well typed, each hypothesis proves the formulas that it stands for, which are of the sequent, and each of the
  -- sequent's has one.
  pub record Branch (gamma : List Form) (d : ℕ) (c : Context) (s : Scope) (hs : Hypotheses) : Type 0 where
    pub above : IsAbove d c
    pub fits : Fits x.sigma x.ss c s
    pub forms : (f : Form) → Contains gamma f → WellTyped x.ss f
    pub carries : (f : Form) → Contains gamma f → HasClosedTypes f
    pub proved : Each (ProvesOf gamma c s) hs
    pub covers : (f : Form) → Contains gamma f → proves hs f ≡ true
    pub scoped : (n : ℕ) → ((f : Form) → Contains gamma f → IsFresh n f) → Avoids n s

  -- only the members of the sequent count
  pub same_members : {gamma delta : List Form} {d : ℕ} {c : Context} {s : Scope} {hs : Hypotheses}
      → ((f : Form) → Contains gamma f → Contains delta f) → ((f : Form) → Contains delta f → Contains gamma f)
      → Branch gamma d c s hs → Branch delta d c s hs
  same_members {gamma} {delta} {d} {c} {s} {hs} to from b = record {
    above = b.above;
    fits = b.fits;
    forms = λ f i. b.forms f (from f i);
    carries = λ f i. b.carries f (from f i);
    proved = each_weaker (ProvesOf gamma c s) (ProvesOf delta c s) (λ f h p. (to f p.0, p.1)) hs b.proved;
    covers = λ f i. b.covers f (from f i);
    scoped = λ n new. b.scoped n (λ f i. new f (to f i));
  }

  two_swapped : (f g : Form) (gamma : List Form) (e : Form) → Contains (f ∷ g ∷ gamma) e → Contains (g ∷ f ∷ gamma) e
  two_swapped f g gamma e i = go (Contains-cases f (g ∷ gamma) e i)
    where
      inner : (g ≡ e) ⊎ Contains gamma e → Contains (g ∷ f ∷ gamma) e
      inner (inl same) = subst (Contains (g ∷ f ∷ gamma)) same (Contains-here g (f ∷ gamma))
      inner (inr j) = Contains-there g (f ∷ gamma) e (Contains-there f gamma e j)

      go : (f ≡ e) ⊎ Contains (g ∷ gamma) e → Contains (g ∷ f ∷ gamma) e
      go (inl same) = subst (Contains (g ∷ f ∷ gamma)) same (Contains-there g (f ∷ gamma) f (Contains-here f gamma))
      go (inr j) = inner (Contains-cases g gamma e j)

  pub swapped : {gamma : List Form} {d : ℕ} {c : Context} {s : Scope} {hs : Hypotheses} (f g : Form)
      → Branch (g ∷ f ∷ gamma) d c s hs → Branch (f ∷ g ∷ gamma) d c s hs
  swapped {gamma} f g b = same_members (two_swapped g f gamma) (two_swapped f g gamma) b

  pub member_is_prop : {gamma : List Form} {d : ℕ} {c : Context} {s : Scope} {hs : Hypotheses} (f : Form)
      → Branch gamma d c s hs
      → Contains gamma f → Has x.sigma c (form_of x.ss s f) (Class.of prop)
  member_is_prop f b i = form_typed x b.fits (b.forms f i)

  -- the proof of a formula of the sequent
  pub used : {gamma : List Form} {d : ℕ} {c : Context} {s : Scope} {hs : Hypotheses} (f : Form) → Branch gamma d c s hs
      → Contains gamma f
      → Has x.sigma c (earliest hs f) (Class.of (prf (form_of x.ss s f)))
  used {gamma} {d} {c} {s} {hs} f b i = (each_earliest (ProvesOf gamma c s) hs f b.proved (b.covers f i)).1

  -- a variable more that proves nothing of the sequent
  pub skip : {gamma : List Form} {d : ℕ} {c : Context} {s : Scope} {hs : Hypotheses} (a : Lp) {k : Class}
      → Has x.sigma c a k
      → Branch gamma d c s hs → Branch gamma (suc d) (Context.bind d a c) s hs
  skip {gamma} {d} {c} {s} {hs} a p b = record {
    above = above_bind d b.above p;
    fits = fits_weak x d a b.fits;
    forms = b.forms;
    carries = b.carries;
    proved = each_weaker (ProvesOf gamma c s) (ProvesOf gamma (Context.bind d a c) s)
        (λ f h q. (q.0, weaken_bind d a q.1)) hs b.proved;
    covers = b.covers;
    scoped = b.scoped;
  }

  member_meets : (P : Form → Type 0) (f : Form) (gamma : List Form) → P f → ((g : Form) → Contains gamma g → P g)
      → (g : Form) → Contains (f ∷ gamma) g → P g
  member_meets P f gamma p all g i = go (Contains-cases f gamma g i)
    where
      go : (f ≡ g) ⊎ Contains gamma g → P g
      go (inl e) = subst P e p
      go (inr j) = all g j

  -- a formula more, with its proof
  pub know : {gamma : List Form} {d : ℕ} {c : Context} {s : Scope} {hs : Hypotheses} (f : Form) (h : Lp)
      → WellTyped x.ss f → HasClosedTypes f
      → Has x.sigma c h (Class.of (prf (form_of x.ss s f))) → Branch gamma d c s hs
      → Branch (f ∷ gamma) d c s (Hypotheses.more (f ∷ []) h hs)
  know {gamma} {d} {c} {s} {hs} f h p q e b = record {
    above = b.above;
    fits = b.fits;
    forms = member_meets (WellTyped x.ss) f gamma p b.forms;
    carries = member_meets HasClosedTypes f gamma q b.carries;
    proved = each_more (ProvesOf (f ∷ gamma) c s) f h hs (Contains-here f gamma, e)
        (each_weaker (ProvesOf gamma c s) (ProvesOf (f ∷ gamma) c s)
        (λ g k r. (Contains-there f gamma g r.0, r.1)) hs b.proved);
    covers = member_meets (λ g. proves (Hypotheses.more (f ∷ []) h hs) g ≡ true) f gamma (proves_more f h hs)
        (λ g i. proves_older (f ∷ []) h hs g (b.covers g i));
    scoped = λ n new. b.scoped n (λ g i. new g (Contains-there f gamma g i));
  }

  -- what proves f proves g too
  pub know_too : {gamma : List Form} {d : ℕ} {c : Context} {s : Scope} {hs : Hypotheses} (f g : Form) → Contains gamma f
      → WellTyped x.ss g
      → HasClosedTypes g → Converts x.sigma (form_of x.ss s f) (form_of x.ss s g) → Branch gamma d c s hs → Branch
      (g ∷ gamma) d c s (also f g hs)
  know_too {gamma} {d} {c} {s} {hs} f g i p q e b = record {
    above = b.above;
    fits = b.fits;
    forms = member_meets (WellTyped x.ss) g gamma p b.forms;
    carries = member_meets HasClosedTypes g gamma q b.carries;
    proved = each_also (ProvesOf (g ∷ gamma) c s) f g
        (λ h r. (
          Contains-here g gamma,
          ty.Has.conversion r.1 (convert_argument _ e)
              (logic.prf_type x.sigma sh (form_typed x b.fits p)) ty.IsSort.is_type,
        )) hs
        (each_weaker (ProvesOf gamma c s) (ProvesOf (g ∷ gamma) c s)
        (λ e k r. (Contains-there g gamma e r.0, r.1)) hs b.proved);
    covers = member_meets (λ e. proves (also f g hs) e ≡ true) g gamma (proves_new f g hs (b.covers f i))
        (λ e j. proves_also f g hs e (b.covers e j));
    scoped = λ n new. b.scoped n (λ e j. new e (Contains-there g gamma e j));
  }

  -- a formula more, proved by the next variable, which has the proofs of q for its type
  pub add_as : {gamma : List Form} {d : ℕ} {c : Context} {s : Scope} {hs : Hypotheses} (f : Form) (q : Lp)
      → WellTyped x.ss f → HasClosedTypes f
      → Has x.sigma c q (Class.of prop) → Converts x.sigma q (form_of x.ss s f) → Branch gamma d c s hs
      → Branch (f ∷ gamma) (suc d) (Context.bind d (prf q) c) s (Hypotheses.more (f ∷ []) (Lp.free d) hs)
  add_as {d = d} f q p l hq e b = know f (Lp.free d) p l
      (ty.Has.conversion (ty.Has.variable ty.Binds.here) (convert_argument _ e)
      (weaken_bind d (prf q) (logic.prf_type x.sigma sh (form_typed x b.fits p))) ty.IsSort.is_type)
      (skip (prf q) (logic.prf_type x.sigma sh hq) b)

  -- the next variable for a new parameter
  pub enter : {gamma : List Form} {d : ℕ} {c : Context} {s : Scope} {hs : Hypotheses} (n : ℕ) (t : Ty) → IsType x.ss 0 t
      → ((f : Form) → Contains gamma f → IsFresh n f) → ((m : ℕ) → ((f : Form) → Contains gamma f → IsFresh m f)
      → EachInType (IsNot m) t)
      → Branch gamma d c s hs → Branch gamma (suc d) (Context.bind d (term (type_of x.ss s 0 t)) c)
      (Scope.of_term n t d s) hs
  enter {gamma} {d} {c} {s} {hs} n t p new known b = record {
    above = above_bind d b.above (logic.term_type x.sigma sh (type_typed x b.fits t p));
    fits = fits_term x.sigma x.holds x.ss x.good x.declared n t d p b.fits;
    forms = b.forms;
    carries = b.carries;
    proved = each_weaker (ProvesOf gamma c s) (ProvesOf gamma (Context.bind d (term (type_of x.ss s 0 t)) c)
        (Scope.of_term n t d s))
        (λ f h q. (
          q.0,
          subst (λ w. Has x.sigma (Context.bind d (term (type_of x.ss s 0 t)) c) h (Class.of (prf w)))
              (sym (form_kept x.ss n t d s f (new f q.0))) (weaken_bind d _ q.1),
        )) hs b.proved;
    covers = b.covers;
    scoped = λ m h. (known m h, b.scoped m h);
  }

  pub enter_type : {gamma : List Form} {d : ℕ} {c : Context} {s : Scope} {hs : Hypotheses} (n : ℕ)
      → ((f : Form) → Contains gamma f → IsFresh n f) → Branch gamma d c s hs
      → Branch gamma (suc d) (Context.bind d types c) (Scope.of_type n d s) hs
  enter_type {gamma} {d} {c} {s} {hs} n new b = record {
    above = above_bind d b.above (logic.const_type x.sigma sh c);
    fits = fits_type x.sigma x.holds x.ss x.good x.declared n d (b.scoped n new) b.fits;
    forms = b.forms;
    carries = b.carries;
    proved = each_weaker (ProvesOf gamma c s) (ProvesOf gamma (Context.bind d types c) (Scope.of_type n d s))
        (λ f h q. (
          q.0,
          subst (λ w. Has x.sigma (Context.bind d types c) h (Class.of (prf w)))
              (sym (form_kept_ty x.ss n d s f (new f q.0))) (weaken_bind d types q.1),
        )) hs b.proved;
    covers = b.covers;
    scoped = b.scoped;
  }

  -- the variables that the rules not-and and not-iff bind first
  pub two_branch : {gamma : List Form} {d : ℕ} {c : Context} {s : Scope} {hs : Hypotheses} (p q : Lp) → Has x.sigma c p
      (Class.of prop)
      → Has x.sigma c q (Class.of prop) → Branch gamma d c s hs
      → Branch gamma (suc (suc d)) (Context.bind (suc d) (Lp.prod (prf p) (Lp.prod (prf q) (prf (Lp.free d))))
      (Context.bind d prop c)) s hs
  two_branch {d = d} {c = c} p q hp hq b =
      skip _ (rule.arrow x.sigma x.holds x.unbound (logic.prf_type x.sigma sh (weaken_bind d prop hp))
      (rule.arrow x.sigma x.holds x.unbound (logic.prf_type x.sigma sh (weaken_bind d prop hq))
      (logic.prf_type x.sigma sh (ty.Has.variable ty.Binds.here))))
      (skip prop (logic.const_prop x.sigma sh c) b)

  -- the variables that the rule iff binds first
  pub iff_branch : {gamma : List Form} {d : ℕ} {c : Context} {s : Scope} {hs : Hypotheses} (p q : Lp) → Has x.sigma c p
      (Class.of prop)
      → Has x.sigma c q (Class.of prop) → Branch gamma d c s hs
      → Branch gamma (suc (suc d)) (Context.bind (suc d) (prf (imp_of q p)) (Context.bind d (prf (imp_of p q)) c)) s hs
  iff_branch {d = d} {c = c} p q hp hq b =
      skip _ (logic.prf_type x.sigma sh (weaken_bind d _ (logic.imp_type x.sigma sh hq hp)))
      (skip _ (logic.prf_type x.sigma sh (logic.imp_type x.sigma sh hp hq)) b)
