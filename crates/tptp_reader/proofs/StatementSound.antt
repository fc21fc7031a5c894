-- What the slow reader of statements reads is in the grammar.
use Rattle.std.proofs.Common.{◌≡◌, ◌&&◌, Bool, true, false, cond, List, ◌∷◌, Option, Some, None, refl, sym, ◌∙◌, ap, subst}
use Rattle.std.specs.Prelude.{codes}
use Rattle.std.specs.Option.{option_map}
use Rattle.std.specs.Str.{bytes_eq}
use Rattle.std.proofs.lemmas.Bool.{and_parts}
use Rattle.std.proofs.lemmas.Option.{none-some, same_Some}
use Rattle.tptp_lex.specs.declared.signs.Sign.TheVariants.{Open, OpenList, CloseList, Comma}
use Rattle.tptp_reader.specs.declared.tree.RawRole.{RawRole}
use Rattle.tptp_reader.specs.Raw.{Name, RawForm, RawTop, RawStatement}
use Rattle.tptp_reader.specs.Tokens.{Token, lower, quoted, sign}
use Rattle.tptp_reader.specs.Rows.{role_of}
use Rattle.tptp_reader.specs.Parsing.{behind, then}
use Rattle.tptp_reader.specs.Grammar.{name_of, unescaped, language_of, IsFormula, IsTyping, IsEnding, IsNames, IsStatement, formula, typing, whole_file, part_of_file}
use Rattle.tptp_reader.specs.SlowLists.{goes_on}
use Rattle.tptp_reader.specs.SlowWords.{name_in}
use Rattle.tptp_reader.specs.SlowTops.{typing_in}
use Rattle.tptp_reader.specs.SlowForms.{formula_in}
use Rattle.tptp_reader.specs.SlowStatements.{lower_in, quoted_in, names_in, is_last, with_ending, with_comma, whole_inclusion, part_inclusion, inclusion_in, typed_statement_in, stated_by, stated_in, bodied_in, annotated_in, worded_by, worded_in, statement_in, statements}
use Rattle.tptp_reader.specs.Kept.{forms}
use Rattle.tptp_reader.proofs.Behind.{behind_back}
use Rattle.tptp_reader.proofs.ReadLaws.{then_back}
use Rattle.tptp_reader.proofs.WordLaws.{name_sound}
use Rattle.tptp_reader.proofs.TypingLaws.{typing_sound}
use Rattle.tptp_reader.proofs.FormsSound.{formula_sound}
use Rattle.tptp_reader.proofs.NameLaws.{lower_back, quoted_back, comma_back, names_back}
use Rattle.tptp_reader.proofs.Endings.{last_is, ended_back}

-- a declaration that was read
pub record Typed (name : Name) (tokens : List Token) (s : RawStatement) : Type 0 where
  pub subject : Name
  pub top : RawTop
  pub ending : List Token
  pub is : IsTyping tokens ending subject top
  pub ends : IsEnding ending
  pub same : RawStatement.typing name subject top ≡ s

pub typed_back : (name : Name) (tokens : List Token) (s : RawStatement) → typed_statement_in name tokens ≡ Some s → Typed name tokens s
unfolding typed_statement_in
typed_back name tokens s e =
    let b = then_back (with_ending (typing_in 200 tokens)) (λ x. Some (RawStatement.typing name x.0 x.1)) s e in
    let d = ended_back (typing_in 200 tokens) b.middle b.first in
    record {
      subject = b.middle.0;
      top = b.middle.1;
      ending = d.ending;
      is = typing_sound 200 tokens b.middle d.ending d.reads;
      ends = d.ends;
      same = same_Some (RawStatement.typing name b.middle.0 b.middle.1) s b.second;
    }

-- a formula that was read
pub record Stated (typed : Bool) (name role : Name) (tokens : List Token) (s : RawStatement) : Type 0 where
  pub kind : RawRole
  pub form : RawForm
  pub ending : List Token
  pub means : role_of role ≡ Some kind
  pub is : IsFormula typed tokens ending form
  pub ends : IsEnding ending
  pub same : RawStatement.formula name kind form ≡ s

stated_by_back : (typed : Bool) (name role : Name) (tokens : List Token) (s : RawStatement) (kind : Option RawRole) → role_of role ≡ kind → stated_by forms statements typed name kind tokens ≡ Some s → Stated typed name role tokens s
stated_by_back typed name role tokens s None means e = absurd (none-some s e)
stated_by_back typed name role tokens s (Some kind) means e =
    let b = then_back (with_ending (formula_in forms typed 200 tokens)) (λ f. Some (RawStatement.formula name kind f)) s e in
    let d = ended_back (formula_in forms typed 200 tokens) b.middle b.first in
    record {
      kind = kind;
      form = b.middle;
      ending = d.ending;
      means = means;
      is = formula_sound typed 200 tokens b.middle d.ending d.reads;
      ends = d.ends;
      same = same_Some (RawStatement.formula name kind b.middle) s b.second;
    }

pub stated_back : (typed : Bool) (name role : Name) (tokens : List Token) (s : RawStatement) → stated_in forms statements typed name role tokens ≡ Some s → Stated typed name role tokens s
unfolding stated_in
stated_back typed name role tokens s e = stated_by_back typed name role tokens s (role_of role) refl e

same_other : (o : Option RawStatement) (s : RawStatement) → option_map (λ (t : RawStatement). t) o ≡ Some s → o ≡ Some s
same_other None s e = e
same_other (Some t) s e = e

-- the front of a fof or tff statement
abbrev front : Name → Token → Name → List Token → List Token
front word t role body = lower word ∷ sign Open ∷ t ∷ sign Comma ∷ lower role ∷ sign Comma ∷ body

body_sound : (word : Name) (typed : Bool) → language_of word ≡ Some typed → (t : Token) (name : Name) → name_of t ≡ Some name → (role : Name) (body : List Token) (s : RawStatement) (b : Bool) → (typed && bytes_eq role (codes "type")) ≡ b → cond b (option_map (λ (x : RawStatement). x) (typed_statement_in name body)) (stated_in forms statements typed name role body) ≡ Some s → IsStatement (front word t role body) s
body_sound word typed l t name n role body s true is e =
    let both = and_parts typed (bytes_eq role (codes "type")) is in
    let d = typed_back name body s (same_other (typed_statement_in name body) s e) in
    subst (IsStatement (front word t role body)) d.same (typing (l ∙ ap Some both.0) n both.1 d.is d.ends)
body_sound word typed l t name n role body s false is e =
    let d = stated_back typed name role body s e in
    subst (IsStatement (front word t role body)) d.same (formula l n d.means d.is d.ends)

annotated_sound : (word : Name) (typed : Bool) → language_of word ≡ Some typed → (tokens : List Token) (s : RawStatement) → annotated_in forms statements typed tokens ≡ Some s → IsStatement (lower word ∷ sign Open ∷ tokens) s
unfolding annotated_in
annotated_sound word typed l tokens s e =
    let a = then_back (with_comma (name_in tokens)) (λ x. then (with_comma (lower_in x.1)) (λ y. bodied_in forms statements typed x.0 y.0 y.1)) s e in
    let b = then_back (with_comma (lower_in a.middle.1)) (λ y. bodied_in forms statements typed a.middle.0 y.0 y.1) s a.second in
    let n = name_sound tokens a.middle.0 (sign Comma ∷ a.middle.1) (comma_back (name_in tokens) a.middle.0 a.middle.1 a.first) in
    let r = lower_back a.middle.1 b.middle.0 (sign Comma ∷ b.middle.1) (comma_back (lower_in a.middle.1) b.middle.0 b.middle.1 b.first) in
    let is = body_sound word typed l n.token a.middle.0 n.is_name b.middle.0 b.middle.1 s (typed && bytes_eq b.middle.0 (codes "type")) refl b.second in
    subst (λ (ts : List Token). IsStatement (lower word ∷ sign Open ∷ ts) s) (sym (n.begins ∙ ap (λ (ts : List Token). n.token ∷ sign Comma ∷ ts) r)) is

-- an include that was read
pub record Included (tokens : List Token) (s : RawStatement) : Type 0 where
  pub file : Name
  pub names : Option (List Name)
  pub is : (word : Name) → bytes_eq word (codes "include") ≡ true → IsStatement (lower word ∷ sign Open ∷ tokens) s
  pub same : RawStatement.inclusion file names ≡ s

whole_by : (text : Name) (rest : List Token) (s : RawStatement) (b : Bool) → is_last rest ≡ b → cond b (Some (RawStatement.inclusion (unescaped text) None)) None ≡ Some s → Included (quoted text ∷ rest) s
whole_by text rest s true e h =
    let same = same_Some (RawStatement.inclusion (unescaped text) None) s h in
    record {
      file = unescaped text;
      names = None;
      is = λ word w. subst (λ (ts : List Token). IsStatement (lower word ∷ sign Open ∷ quoted text ∷ ts) s) (sym (last_is rest e)) (subst (IsStatement _) same (whole_file w refl));
      same = same;
    }
whole_by text rest s false e h = absurd (none-some s h)

part_by : (text : Name) (inside rest : List Token) (names : List Name) (s : RawStatement) (b : Bool) → is_last rest ≡ b → IsNames inside (sign CloseList ∷ rest) names → cond b (Some (RawStatement.inclusion (unescaped text) (Some names))) None ≡ Some s → Included (quoted text ∷ sign Comma ∷ sign OpenList ∷ inside) s
part_by text inside rest names s true e d h =
    let same = same_Some (RawStatement.inclusion (unescaped text) (Some names)) s h in
    let are = subst (λ (ts : List Token). IsNames inside (sign CloseList ∷ ts) names) (last_is rest e) d in
    record {
      file = unescaped text;
      names = Some names;
      is = λ word w. subst (IsStatement _) same (part_of_file w refl are);
      same = same;
    }
part_by text inside rest names s false e d h = absurd (none-some s h)

part_sound : (text : Name) (more : List Token) (s : RawStatement) → part_inclusion text more ≡ Some s → Included (quoted text ∷ sign Comma ∷ more) s
part_sound text more s e =
    let a = then_back (names_in more) (λ x. cond (is_last x.1) (Some (RawStatement.inclusion (unescaped text) (Some x.0))) None) s e in
    let n = names_back more a.middle.0 a.middle.1 a.first in
    subst (λ (ts : List Token). Included (quoted text ∷ sign Comma ∷ ts) s) (sym n.front) (part_by text n.inside a.middle.1 a.middle.0 s (is_last a.middle.1) refl n.are a.second)

inclusion_by : (text : Name) (rest : List Token) (s : RawStatement) (r : Option (List Token)) → behind Comma rest ≡ r → goes_on r (part_inclusion text) (whole_inclusion text rest) ≡ Some s → Included (quoted text ∷ rest) s
inclusion_by text rest s None e h = whole_by text rest s (is_last rest) refl h
inclusion_by text rest s (Some more) e h = subst (λ (ts : List Token). Included (quoted text ∷ ts) s) (sym (behind_back Comma rest more e)) (part_sound text more s h)

pub inclusion_back : (tokens : List Token) (s : RawStatement) → inclusion_in tokens ≡ Some s → Included tokens s
unfolding inclusion_in
inclusion_back tokens s e =
    let a = then_back (quoted_in tokens) (λ x. goes_on (behind Comma x.1) (part_inclusion x.0) (whole_inclusion x.0 x.1)) s e in
    subst (λ (ts : List Token). Included ts s) (sym (quoted_back tokens a.middle.0 a.middle.1 a.first)) (inclusion_by a.middle.0 a.middle.1 s (behind Comma a.middle.1) refl a.second)

language_sound : (word : Name) (tokens : List Token) (s : RawStatement) (l : Option Bool) → language_of word ≡ l → worded_by forms statements l tokens ≡ Some s → IsStatement (lower word ∷ sign Open ∷ tokens) s
language_sound word tokens s None l e = absurd (none-some s e)
language_sound word tokens s (Some typed) l e = annotated_sound word typed l tokens s e

word_sound : (word : Name) (tokens : List Token) (s : RawStatement) (b : Bool) → bytes_eq word (codes "include") ≡ b → cond b (option_map (λ (x : RawStatement). x) (inclusion_in tokens)) (worded_by forms statements (language_of word) tokens) ≡ Some s → IsStatement (lower word ∷ sign Open ∷ tokens) s
word_sound word tokens s true is e = (inclusion_back tokens s (same_other (inclusion_in tokens) s e)).is word is
word_sound word tokens s false is e = language_sound word tokens s (language_of word) refl e

-- what is read as a statement is one
pub statement_sound : (tokens : List Token) (s : RawStatement) → statement_in forms statements tokens ≡ Some s → IsStatement tokens s
unfolding statement_in
statement_sound tokens s e =
    let a = then_back (lower_in tokens) (λ x. then (behind Open x.1) (λ rest. worded_in forms statements x.0 rest)) s e in
    let b = then_back (behind Open a.middle.1) (λ rest. worded_in forms statements a.middle.0 rest) s a.second in
    let front = lower_back tokens a.middle.0 a.middle.1 a.first ∙ ap (λ (ts : List Token). lower a.middle.0 ∷ ts) (behind_back Open a.middle.1 b.middle b.first) in
    subst (λ (ts : List Token). IsStatement ts s) (sym front) (word_sound a.middle.0 b.middle s (bytes_eq a.middle.0 (codes "include")) refl b.second)
