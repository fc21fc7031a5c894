-- What is given for a formula is well typed over the variables in scope.
use Rattle.std.proofs.Common.{◌≡◌, ◌&&◌, Bool, true, false, Option, Some, None, Ok, List, [], ◌∷◌, length, refl, subst}
use Rattle.std.proofs.lemmas.Option.{none-some}
use Rattle.zm_logic.specs.Tree.{Ty, Form, Symbol, Binder}
use Rattle.zm_logic.specs.Typing.{individual, WellTyped}
use Rattle.zm_logic.specs.Parameter.{Parameter, Never, HasNoParameter}
use Rattle.zm_logic.proofs.Each.{each}
use Rattle.tptp_reader.specs.Raw.{RawType, RawTerm, RawForm}
use Rattle.tptp_reader.specs.Raw.{Quantifier}
use Rattle.tff_typing.specs.Written.{connective_of}
use Rattle.tff_typing.specs.Scope.{Scope, Variable, IsInScope}
use Rattle.tff_typing.specs.Table.{Table, Place, symbols_of}
use Rattle.tff_typing.specs.Fault.{◌>>=◌}
use Rattle.tff_typing.specs.Places.{type_in, Expression, wanted, as_formula}
use Rattle.tff_typing.specs.Typing.{Typed, expression_in, left_side, equality_in, of_written, binder_in, bind, form_in}
use Rattle.tff_typing.proofs.Outcomes.{both_ok, ok_same, no_ok}
use Rattle.tff_typing.proofs.Extends.{term_kept, joined}
use Rattle.tff_typing.proofs.Tables.{IsTable}
use Rattle.tff_typing.proofs.TypesTyped.{IsTypeIn, type_sound, individual_in}
use Rattle.tff_typing.proofs.TermsTyped.{IsBinderIn, IsScope, scope_kept, type_in_kept, IsExpressionIn, IsGrown, wanted_is, expression_sound, as_it_is}
use Rattle.tff_typing.proofs.Binding.{IsFormIn, form_in_kept, type_closed, types_closed, term_closed, terms_closed, bound_form}

pub record IsFormSound (s : Scope) (before : Table) (e : Typed Form) : Type 0 where
  pub grown : IsGrown before e.table
  pub form : IsFormIn (symbols_of e.table) s e.tree

abbrev form_of : Form → Table → Typed Form
form_of f table = record { tree = f; table = table }

atom_is : (symbols : List Symbol) (s : Scope) (x : Expression) (f : Form) → IsExpressionIn symbols s x
    → as_formula x ≡ Ok f → IsFormIn symbols s f
atom_is symbols s (Expression.term t a) f ok h = absurd (no_ok _ f h)
atom_is symbols s (Expression.atom p ts us) f ok h =
    subst (λ (y : Form). IsFormIn symbols s y) (ok_same (Form.atom p ts us) f h)
    (record {
      typed = WellTyped.atom ok.typed;
      each = (ok.types, ok.terms);
      closed = (types_closed symbols 0 ts ok.typed.3, terms_closed symbols 0 us _ ok.typed.4);
    })

module _ (table : Table) (ok : IsTable table) (s : Scope) where
  written_type : (t : RawType) (b : Binder) → (type_in table s t >>= λ u. Ok (Binder.of_term u)) ≡ Ok b
      → IsBinderIn (symbols_of table) s b
  written_type t b h =
      let a = both_ok (type_in table s t) (λ u. Ok (Binder.of_term u)) b h in
      subst (λ (x : Binder). IsBinderIn (symbols_of table) s x) (ok_same (Binder.of_term a.0) b a.2)
      (type_sound table s ok.signature t a.0 a.1)

  written_is : (t : RawType) (b : Binder) → of_written table s t ≡ Ok b → IsBinderIn (symbols_of table) s b
  written_is RawType.kind b h = subst (λ (x : Binder). IsBinderIn (symbols_of table) s x) (ok_same Binder.of_type b h) tt
  written_is RawType.individual b h =
      subst (λ (x : Binder). IsBinderIn (symbols_of table) s x) (ok_same (Binder.of_term individual) b h)
      (individual_in (symbols_of table) s)
  written_is RawType.truth b h = absurd (no_ok _ b h)
  written_is (RawType.variable x) b h = written_type (RawType.variable x) b h
  written_is (RawType.named c ts) b h = written_type (RawType.named c ts) b h

  pub binder_is : (o : Option RawType) (b : Binder) → binder_in table s o ≡ Ok b
      → IsBinderIn (symbols_of table) s b
  binder_is None b h =
      subst (λ (x : Binder). IsBinderIn (symbols_of table) s x) (ok_same (Binder.of_term individual) b h)
      (individual_in (symbols_of table) s)
  binder_is (Some t) b h = written_is t b h

left_is : (symbols : List Symbol) (s : Scope) (x : Expression) (t : Ty) → IsExpressionIn symbols s x
    → left_side x ≡ Ok t → IsTypeIn symbols s t
left_is symbols s (Expression.term u a) t ok h = subst (λ (y : Ty). IsTypeIn symbols s y) (ok_same u t h) ok.type
left_is symbols s (Expression.atom p ts us) t ok h = absurd (no_ok _ t h)

equality_sound : (table : Table) (s : Scope) (l r : RawTerm) (e : Typed Form) → IsTable table
    → IsScope (symbols_of table) s
    → equality_in table s l r ≡ Ok e → IsFormSound s table e
equality_sound table s l r e ok scope h =
    let a = both_ok (expression_in table s Place.term l) _ e h in
    let x = a.0 in
    let b = both_ok (left_side x.tree) _ e a.2 in
    let t = b.0 in
    let c = both_ok (wanted t x.tree) _ e b.2 in
    let d = both_ok (expression_in x.table s Place.term r) _ e c.2 in
    let y = d.0 in
    let g = both_ok (wanted t y.tree) _ e d.2 in
    let i = expression_sound table s Place.term l x ok scope a.1 in
    let j = expression_sound x.table s Place.term r y i.grown.good
    (scope_kept (symbols_of table) (symbols_of x.table) s i.grown.grows scope) d.1 in
    let grows = j.grown.grows in
    let type = type_in_kept (symbols_of x.table) (symbols_of y.table) s t grows
    (left_is (symbols_of x.table) s x.tree t i.expression b.1) in
    let left = wanted_is (symbols_of x.table) s t x.tree c.0 i.expression c.1 in
    let right = wanted_is (symbols_of y.table) s t y.tree g.0 j.expression g.1 in
    let typed = term_kept (symbols_of x.table) (symbols_of y.table) grows c.0 t left.typed in
    subst (λ (z : Typed Form). IsFormSound s table z) (ok_same (form_of (Form.equal t c.0 g.0) y.table) e g.2)
    (record {
      grown = record { good = j.grown.good; grows = joined i.grown.grows grows };
      form = record {
        typed = WellTyped.equal type.typed typed right.typed;
        each = (type.each, left.each, right.each);
        closed = (
          type_closed (symbols_of y.table) 0 t type.typed,
          term_closed (symbols_of y.table) 0 c.0 t typed,
          term_closed (symbols_of y.table) 0 g.0 t right.typed,
        );
      };
    })

pub form_sound : (table : Table) (s : Scope) (f : RawForm) (e : Typed Form) → IsTable table
    → IsScope (symbols_of table) s
    → form_in table s f ≡ Ok e → IsFormSound s table e
form_sound table s RawForm.truth e ok scope h =
    subst (λ (z : Typed Form). IsFormSound s table z) (ok_same (form_of Form.truth table) e h)
    (record { grown = as_it_is table ok; form = record { typed = WellTyped.truth; each = tt; closed = tt } })
form_sound table s RawForm.falsity e ok scope h =
    subst (λ (z : Typed Form). IsFormSound s table z) (ok_same (form_of Form.falsity table) e h)
    (record { grown = as_it_is table ok; form = record { typed = WellTyped.falsity; each = tt; closed = tt } })
form_sound table s (RawForm.plain u) e ok scope h =
    let a = both_ok (expression_in table s Place.formula u) _ e h in
    let x = a.0 in
    let b = both_ok (as_formula x.tree) _ e a.2 in
    let i = expression_sound table s Place.formula u x ok scope a.1 in
    subst (λ (z : Typed Form). IsFormSound s table z) (ok_same (form_of b.0 x.table) e b.2)
    (record { grown = i.grown; form = atom_is (symbols_of x.table) s x.tree b.0 i.expression b.1 })
form_sound table s (RawForm.equal l r) e ok scope h = equality_sound table s l r e ok scope h
form_sound table s (RawForm.negation f) e ok scope h =
    let a = both_ok (form_in table s f) _ e h in
    let i = form_sound table s f a.0 ok scope a.1 in
    subst (λ (z : Typed Form). IsFormSound s table z) (ok_same (form_of (Form.negation a.0.tree) a.0.table) e a.2)
    (record {
      grown = i.grown;
      form = record { typed = WellTyped.negation i.form.typed; each = i.form.each; closed = i.form.closed };
    })
form_sound table s (RawForm.binary c f g) e ok scope h =
    let a = both_ok (form_in table s f) _ e h in
    let x = a.0 in
    let b = both_ok (form_in x.table s g) _ e a.2 in
    let y = b.0 in
    let i = form_sound table s f x ok scope a.1 in
    let j = form_sound x.table s g y i.grown.good
    (scope_kept (symbols_of table) (symbols_of x.table) s i.grown.grows scope) b.1 in
    let k = form_in_kept (symbols_of x.table) (symbols_of y.table) s x.tree j.grown.grows i.form in
    subst (λ (z : Typed Form). IsFormSound s table z)
    (ok_same (form_of (Form.binary (connective_of c) x.tree y.tree) y.table) e b.2)
    (record {
      grown = record { good = j.grown.good; grows = joined i.grown.grows j.grown.grows };
      form =
          record {
            typed = WellTyped.binary k.typed j.form.typed;
            each = (k.each, j.form.each);
            closed = (k.closed, j.form.closed);
          };
    })
form_sound table s (RawForm.quantified q v f) e ok scope h =
    let a = both_ok (binder_in table s v.type) _ e h in
    let w : Variable = record { name = v.name; binder = a.0 } in
    let b = both_ok (form_in table (w ∷ s) f) _ e a.2 in
    let x = b.0 in
    let binder = binder_is table ok s v.type a.0 a.1 in
    let i = form_sound table (w ∷ s) f x ok (scope, binder) b.1 in
    let inner = scope_kept (symbols_of table) (symbols_of x.table) (w ∷ s) i.grown.grows (scope, binder) in
    subst (λ (z : Typed Form). IsFormSound s table z) (ok_same (form_of (bind q a.0 (length s) x.tree) x.table) e b.2)
    (record { grown = i.grown; form = bound_form (symbols_of x.table) s w q x.tree inner.0 a.0 refl inner.1 i.form })

in_no_scope : (p : Parameter) → IsInScope [] p → Never p
in_no_scope (Parameter.type_param n) h = none-some Binder.of_type h
in_no_scope (Parameter.type_meta n) h = h
in_no_scope (Parameter.eps n t) h = none-some (Binder.of_term t) h
in_no_scope (Parameter.meta n t) h = h

-- a formula over no variables has no parameter
pub no_parameter : (symbols : List Symbol) (f : Form) → IsFormIn symbols [] f → HasNoParameter f
no_parameter symbols f h = each (IsInScope []) Never in_no_scope f h.each
