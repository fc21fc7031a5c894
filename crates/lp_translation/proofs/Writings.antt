-- How formulas and terms are written in proof terms: as their translations, or with definitions.
use Rattle.std.proofs.Common.{ℕ, ◌≤◌, ◌≡◌, List, Some, subst}
use Rattle.lp_terms.specs.Term.{Lp, opened}
use Rattle.lp_terms.specs.Signature.{Entry, Extends, SignatureHasNoFree}
use Rattle.lp_terms.specs.Reduction.{Converts}
use Rattle.lp_terms.specs.Reduction as red
use Rattle.lp_terms.specs.Typing.{Context, Class, Has}
use Rattle.zm_logic.specs.Tree.{Ty, Tys, Term, Form, Quantifier, Symbol, Sense}
use Rattle.zm_logic.specs.Parameter.{EachIn}
use Rattle.zm_logic.specs.Typing.{IsType, AreTypes, HasType, WellTyped, IsSignature, symbol_at, how_many, argument_types}
use Rattle.lp_signature.specs.Prelude.{prop, types, term, prelude}
use Rattle.lp_signature.specs.Names.{constant}
use Rattle.lp_signature.specs.Translation.{Scope, type_of, term_of, form_of, apply_types}
use Rattle.lp_signature.specs.Scoped.{CarriesClosed, Declared, Fits}
use Rattle.lp_signature.proofs.MoreRules.{ConvertsUnder}
use Rattle.lp_signature.proofs.SymbolTypes.{closed_arrows, result_at}
use Rattle.lp_signature.proofs.TypedTrees as typed

-- no type that a parameter of the formula carries has a loose index
abbrev pub HasClosedTypes : Form → Type 0
HasClosedTypes f = EachIn CarriesClosed f

-- from some number on
abbrev pub FromSomeOn : (ℕ → Type 0) → Type 0
FromSomeOn P = (b : ℕ) × ((n : ℕ) → b ≤ n → P n)

-- What is written is typed and converts to the translation. A body converts to the written one whatever its variable
-- stands for.
pub record Writing (sigma : List Entry) (ss : List Symbol) (write : Scope → Form → Lp)
    (write_term : Scope → Term → Lp) : Type 0 where
  pub form_written : (c : Context) (s : Scope) (f : Form) → Fits sigma ss c s → WellTyped ss f → HasClosedTypes f
      → Has sigma c (write s f) (Class.of prop)
  pub form_same : (s : Scope) (f : Form) → Converts sigma (write s f) (form_of ss s f)
  pub term_written : (c : Context) (s : Scope) (u : Term) (t : Ty) → Fits sigma ss c s → HasType ss u t
      → Has sigma c (write_term s u) (Class.of (term (type_of ss s 0 t)))
  pub term_same : (s : Scope) (u : Term) → Converts sigma (write_term s u) (term_of ss s u)
  pub bodies_written : (c : Context) (s : Scope) (q : Quantifier) (t : Ty) (f : Form) → Fits sigma ss c s
      → WellTyped ss (Form.quantified q t f) → HasClosedTypes f
      → FromSomeOn (λ n. Has sigma (Context.bind n (term (type_of ss s 0 t)) c) (opened (write s f) (Lp.free n))
      (Class.of prop))
  pub bodies_written_types : (c : Context) (s : Scope) (q : Quantifier) (f : Form) → Fits sigma ss c s
      → WellTyped ss (Form.quantified_types q f) → HasClosedTypes f
      → FromSomeOn (λ n. Has sigma (Context.bind n types c) (opened (write s f) (Lp.free n)) (Class.of prop))
  pub body_under : (s : Scope) (f : Form) → ConvertsUnder sigma (form_of ss s f) (write s f)

-- without definitions
pub unshared : (sigma : List Entry) → Extends prelude sigma → (ss : List Symbol) → IsSignature ss → Declared sigma ss ss
    → Writing sigma ss (form_of ss) (term_of ss)
unshared sigma holds ss good declared = record {
  form_written = λ c s f fits w k. typed.form_typed sigma holds ss good declared c s fits w;
  form_same = λ s f. red.Converts.same;
  term_written = λ c s u t fits h. typed.term_typed sigma holds ss good declared c s fits u t h;
  term_same = λ s u. red.Converts.same;
  bodies_written = λ c s q t f fits w k. (0, λ n le. typed.bodies_typed sigma holds ss good declared c s fits w n);
  bodies_written_types = λ c s q f fits w k. (0, λ n le. typed.bodies_typed_ty sigma holds ss good declared c s fits w n);
  body_under = λ s f. ConvertsUnder.same;
}

-- a signature that holds the prelude and declares the symbols of a signature of trees, with a way of writing
pub record Setting : Type 0 where
  pub sigma : List Entry
  pub holds : Extends prelude sigma
  pub unbound : SignatureHasNoFree sigma
  pub ss : List Symbol
  pub good : IsSignature ss
  pub declared : Declared sigma ss ss
  pub write : Scope → Form → Lp
  pub write_term : Scope → Term → Lp
  pub writing : Writing sigma ss write write_term

-- translations in a setting
module _ (x : Setting) where
  pub type_typed : {c : Context} {s : Scope} → Fits x.sigma x.ss c s → (t : Ty) → IsType x.ss 0 t
      → Has x.sigma c (type_of x.ss s 0 t) (Class.of types)
  type_typed fits t h = typed.type_fits x.sigma x.holds x.ss x.good x.declared fits t h

  pub term_typed : {c : Context} {s : Scope} → Fits x.sigma x.ss c s → (u : Term) (t : Ty) → HasType x.ss u t
      → Has x.sigma c (term_of x.ss s u) (Class.of (term (type_of x.ss s 0 t)))
  term_typed {c} {s} fits u t h = typed.term_typed x.sigma x.holds x.ss x.good x.declared c s fits u t h

  pub form_typed : {c : Context} {s : Scope} {f : Form} → Fits x.sigma x.ss c s → WellTyped x.ss f
      → Has x.sigma c (form_of x.ss s f) (Class.of prop)
  form_typed {c} {s} fits w = typed.form_typed x.sigma x.holds x.ss x.good x.declared c s fits w

  pub fits_weak : {c : Context} {s : Scope} (n : ℕ) (a : Lp) → Fits x.sigma x.ss c s → Fits x.sigma x.ss
      (Context.bind n a c) s
  fits_weak n a fits = typed.fits_weak x.sigma x.holds x.ss x.good x.declared n a fits

  -- a symbol of a sense, at types for its type variables
  pub symbol_typed : {c : Context} {s : Scope} → Fits x.sigma x.ss c s → (p : ℕ) (d : Symbol) (ts : Tys) (r : Sense)
      → symbol_at x.ss p ≡ Some d → d.types ≡ how_many ts → d.sense ≡ r → AreTypes x.ss 0 ts
      → Has x.sigma c (apply_types x.ss s 0 (Lp.const (constant x.ss p)) ts)
      (Class.of (closed_arrows x.ss s (argument_types d ts) (result_at x.ss s ts r)))
  symbol_typed {c} {s} fits p d ts r e n h are =
      subst (λ y. Has x.sigma c (apply_types x.ss s 0 (Lp.const (constant x.ss p)) ts)
      (Class.of (closed_arrows x.ss s (argument_types d ts) (result_at x.ss s ts y)))) h
      (typed.symbol_fits x.sigma x.holds x.ss x.good x.declared c s fits p d ts e n are)
