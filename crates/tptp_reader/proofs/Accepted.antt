-- What is kept of a statement, and what the parser's answer says of it.
use Rattle.std.proofs.Common.{◌≡◌, ◌<◌, ◌≤◌, ◌&&◌, ℕ, Bool, true, false, cond, List, Option, Some, None, Result, Ok, Err, refl, sym, ◌∙◌, ap, subst, arith}
use Rattle.std.specs.Prelude.{nat_le, codes, IfOk}
use Rattle.std.specs.Option.{option_map}
use Rattle.std.specs.Str.{bytes_eq}
use Rattle.std.proofs.lemmas.Bool.Decides.{nat_tests}
use Rattle.std.proofs.lemmas.Option.{none-some, same_Some}
use Rattle.tptp_lex.specs.declared.signs.Sign.TheVariants.{Open}
use Rattle.tptp_reader.specs.declared.tree.RawRole.{RawRole}
use Rattle.tptp_reader.specs.declared.statement.Body.{Body}
use Rattle.tptp_reader.specs.declared.parse.Parsed.{Parsed}
use Rattle.tptp_reader.specs.declared.parse.Parsed.TheVariants as parses
use Rattle.tptp_reader.specs.declared.cursor.ParseStop.{ParseStop}
use Rattle.tptp_reader.specs.declared.cursor.ParseStop.TheVariants.{Syntax, Memory}
use Rattle.tptp_reader.specs.Raw.{Name, RawForm, RawStatement, raw_depth}
use Rattle.tptp_reader.specs.Tokens.{Token}
use Rattle.tptp_reader.specs.Limits.{IsWithinLimits}
use Rattle.tptp_reader.specs.Rows.{role_of, early_fault}
use Rattle.tptp_reader.specs.Grammar.{language_of, IsStatement}
use Rattle.tptp_reader.specs.Answers.{formula_depth}
use Rattle.tptp_reader.specs.Parsing.{behind, then}
use Rattle.tptp_reader.specs.SlowWords.{name_in}
use Rattle.tptp_reader.specs.SlowForms.{formula_in}
use Rattle.tptp_reader.specs.SlowStatements.{lower_in, is_ending, with_ending, with_comma, inclusion_in, typed_statement_in, stated_by, stated_in, annotated_in, worded_by, statement_in, statements, kept_stated, kept_statements}
use Rattle.tptp_reader.specs.Kept.{forms, whole, too_deep, kept, limited, Makes, parsed_tree}
use Rattle.tptp_reader.specs.View.{body_tree}
use Rattle.tptp_reader.specs.Accepted.{Accepts}
use Rattle.tptp_reader.proofs.Natural.{carried, kept_formula}
use Rattle.tptp_reader.proofs.StatementSound.{typed_back, inclusion_back, statement_sound}
use Rattle.tptp_reader.proofs.StatementComplete.{IsShallow, statement_complete}

-- the statement, or none where its formula is too deep
abbrev within_depth : RawStatement → Option RawStatement
within_depth (RawStatement.formula name role f) = kept_stated name role (kept 1000 f)
within_depth (RawStatement.typing name subject top) = Some (RawStatement.typing name subject top)
within_depth (RawStatement.inclusion file names) = Some (RawStatement.inclusion file names)

ended_carried : {A B : Type 0} (h : A → B) (r : Option (A × List Token)) → with_ending (carried h r) ≡ option_map h (with_ending r)
ended_carried h None = refl
ended_carried {A} {B} h (Some x) = by (is_ending x.1)
  where
    by : (b : Bool) → ◌≡◌ {A = Option B} (cond b (Some (h x.0)) None) (option_map h (cond b (Some x.0) None))
    by true = refl
    by false = refl

made_kept : (name : Name) (role : RawRole) (o : Option RawForm) → then (option_map (kept 1000) o) (λ k. Some (kept_stated name role k)) ≡ option_map within_depth (then o (λ f. Some (RawStatement.formula name role f)))
made_kept name role None = refl
made_kept name role (Some f) = refl

stated_kept : (typed : Bool) (name : Name) (role : Option RawRole) (tokens : List Token) → stated_by limited kept_statements typed name role tokens ≡ option_map within_depth (stated_by forms statements typed name role tokens)
stated_kept typed name None tokens = refl
stated_kept typed name (Some role) tokens =
    ap (λ r. then (with_ending r) (λ k. Some (kept_stated name role k))) (kept_formula 1000 typed 200 tokens)
    ∙ ap (λ o. then o (λ k. Some (kept_stated name role k))) (ended_carried (kept 1000) (formula_in forms typed 200 tokens))
    ∙ made_kept name role (with_ending (formula_in forms typed 200 tokens))

-- a statement that has no formula is kept
kept_other : (o : Option RawStatement) → ((s : RawStatement) → o ≡ Some s → within_depth s ≡ Some s) → option_map kept_statements.of_other o ≡ option_map within_depth (option_map statements.of_other o)
kept_other None h = refl
kept_other (Some s) h = ap Some (sym (h s refl))

typed_kept : (name : Name) (tokens : List Token) (s : RawStatement) → typed_statement_in name tokens ≡ Some s → within_depth s ≡ Some s
typed_kept name tokens s e = let d = typed_back name tokens s e in subst (λ (t : RawStatement). within_depth t ≡ Some t) d.same refl

inclusion_kept : (tokens : List Token) (s : RawStatement) → inclusion_in tokens ≡ Some s → within_depth s ≡ Some s
inclusion_kept tokens s e = let d = inclusion_back tokens s e in subst (λ (t : RawStatement). within_depth t ≡ Some t) d.same refl

body_by : (typed : Bool) (name role : Name) (tokens : List Token) (b : Bool) → cond b (option_map kept_statements.of_other (typed_statement_in name tokens)) (stated_in limited kept_statements typed name role tokens) ≡ option_map within_depth (cond b (option_map statements.of_other (typed_statement_in name tokens)) (stated_in forms statements typed name role tokens))
unfolding stated_in
body_by typed name role tokens true = kept_other (typed_statement_in name tokens) (typed_kept name tokens)
body_by typed name role tokens false = stated_kept typed name (role_of role) tokens

then_kept : {P : Type 0} (o : Option P) (k : P → Option (Option RawStatement)) (l : P → Option RawStatement) → ((x : P) → k x ≡ option_map within_depth (l x)) → then o k ≡ option_map within_depth (then o l)
then_kept None k l h = refl
then_kept (Some x) k l h = h x

annotated_kept : (typed : Bool) (tokens : List Token) → annotated_in limited kept_statements typed tokens ≡ option_map within_depth (annotated_in forms statements typed tokens)
unfolding annotated_in
annotated_kept typed tokens =
    then_kept (with_comma (name_in tokens)) _ _ (λ x. then_kept (with_comma (lower_in x.1)) _ _ (λ y. body_by typed x.0 y.0 y.1 (typed && bytes_eq y.0 (codes "type"))))

language_kept : (l : Option Bool) (tokens : List Token) → worded_by limited kept_statements l tokens ≡ option_map within_depth (worded_by forms statements l tokens)
language_kept None tokens = refl
language_kept (Some typed) tokens = annotated_kept typed tokens

word_by : (word : Name) (tokens : List Token) (b : Bool) → cond b (option_map kept_statements.of_other (inclusion_in tokens)) (worded_by limited kept_statements (language_of word) tokens) ≡ option_map within_depth (cond b (option_map statements.of_other (inclusion_in tokens)) (worded_by forms statements (language_of word) tokens))
word_by word tokens true = kept_other (inclusion_in tokens) (inclusion_kept tokens)
word_by word tokens false = language_kept (language_of word) tokens

-- the statement is kept exactly where its formula is not too deep
statement_kept : (tokens : List Token) → statement_in limited kept_statements tokens ≡ option_map within_depth (statement_in forms statements tokens)
unfolding statement_in
statement_kept tokens = then_kept (lower_in tokens) _ _ (λ x. then_kept (behind Open x.1) _ _ (λ rest. word_by x.0 rest (bytes_eq x.0 (codes "include"))))

-- what was read, of which so much is kept
record Known (o : Option RawStatement) (k : Option RawStatement) : Type 0 where
  statement : RawStatement
  reads : o ≡ Some statement
  keeps : within_depth statement ≡ k

known : (o : Option RawStatement) (k : Option RawStatement) → option_map within_depth o ≡ Some k → Known o k
known None k e = absurd (none-some k e)
known (Some s) k e = record { statement = s; reads = refl; keeps = same_Some (within_depth s) k e }

not_deeper : (n : ℕ) → nat_le n 1000 ≡ true → n ≤ 1000
not_deeper n e = grind (arith, nat_tests, e)

deeper : (n : ℕ) → nat_le n 1000 ≡ false → 1000 < n
deeper n e = grind (arith, nat_tests, e)

-- a statement that is kept
kept_by : (name : Name) (role : RawRole) (f : RawForm) (n : ℕ) (s : RawStatement) (b : Bool) → nat_le n 1000 ≡ b → kept_stated name role (cond b (whole f n) too_deep) ≡ Some s → (RawStatement.formula name role f ≡ s) × (n ≤ 1000)
kept_by name role f n s true e h = (same_Some (RawStatement.formula name role f) s h, not_deeper n e)
kept_by name role f n s false e h = absurd (none-some s h)

kept_is : (t s : RawStatement) → within_depth t ≡ Some s → (t ≡ s) × (formula_depth t ≤ 1000)
kept_is (RawStatement.formula name role f) s e = kept_by name role f (raw_depth f) s (nat_le (raw_depth f) 1000) refl e
kept_is (RawStatement.typing name subject top) s e = (same_Some (RawStatement.typing name subject top) s e, omega arith)
kept_is (RawStatement.inclusion file names) s e = (same_Some (RawStatement.inclusion file names) s e, omega arith)

lost_by : (name : Name) (role : RawRole) (f : RawForm) (n : ℕ) (b : Bool) → nat_le n 1000 ≡ b → kept_stated name role (cond b (whole f n) too_deep) ≡ None → 1000 < n
lost_by name role f n true e h = absurd (none-some _ (sym h))
lost_by name role f n false e h = deeper n e

lost_is : (t : RawStatement) → within_depth t ≡ None → 1000 < formula_depth t
lost_is (RawStatement.formula name role f) e = lost_by name role f (raw_depth f) (nat_le (raw_depth f) 1000) refl e
lost_is (RawStatement.typing name subject top) e = absurd (none-some _ (sym e))
lost_is (RawStatement.inclusion file names) e = absurd (none-some _ (sym e))

within_limits : (s : RawStatement) → IsShallow s → formula_depth s ≤ 1000 → IsWithinLimits s
within_limits (RawStatement.formula name role f) h le = (h, le)
within_limits (RawStatement.typing name subject top) h le = h
within_limits (RawStatement.inclusion file names) h le = tt

accepts_body : (tokens : List Token) (body : Body) (t : RawStatement) → early_fault tokens ≡ None → IsStatement tokens t → within_depth t ≡ Some (body_tree body) → Accepts tokens (parses.Body body)
accepts_body tokens body t e d k =
    let same = kept_is t (body_tree body) k in
    let is = subst (IsStatement tokens) same.0 d in
    let small = subst (λ (s : RawStatement). formula_depth s ≤ 1000) same.0 same.1 in
    (is, (small, within_limits (body_tree body) (statement_complete tokens (body_tree body) e is).shallow small))

accepts_known : (tokens : List Token) (p : Parsed) → early_fault tokens ≡ None → Known (statement_in forms statements tokens) (parsed_tree p) → Accepts tokens p
accepts_known tokens (parses.Body body) e k = accepts_body tokens body k.statement e (statement_sound tokens k.statement k.reads) k.keeps
accepts_known tokens parses.TooDeep e k = record { statement = k.statement; spelled = statement_sound tokens k.statement k.reads; deep = lost_is k.statement k.keeps }

-- what was parsed is accepted
pub accepted : (tokens : List Token) (p : Parsed) → early_fault tokens ≡ None → Makes parsed_tree (Ok p) (statement_in limited kept_statements tokens) → Accepts tokens p
accepted tokens p e m = accepts_known tokens p e (known (statement_in forms statements tokens) (parsed_tree p) (sym (statement_kept tokens) ∙ m))

none_known : (o : Option RawStatement) → option_map within_depth o ≡ None → o ≡ None
none_known None e = refl
none_known (Some s) e = absurd (none-some (within_depth s) (sym e))

-- and where the parser tells of a syntax fault there is no statement
pub refused : (tokens : List Token) (s : RawStatement) → early_fault tokens ≡ None → Makes parsed_tree (Err Syntax) (statement_in limited kept_statements tokens) → IsStatement tokens s → ⊥
refused tokens s e m d =
    let none = none_known (statement_in forms statements tokens) (sym (statement_kept tokens) ∙ m) in
    none-some s (sym none ∙ (statement_complete tokens s e d).reads)

-- the same, of what the parser returned
pub accepted_result : (tokens : List Token) (r : Result Parsed ParseStop) → early_fault tokens ≡ None → Makes parsed_tree r (statement_in limited kept_statements tokens) → IfOk r (λ p. Accepts tokens p)
accepted_result tokens (Ok p) e m = accepted tokens p e m
accepted_result tokens (Err Syntax) e m = tt
accepted_result tokens (Err Memory) e m = tt

pub refused_result : (tokens : List Token) (r : Result Parsed ParseStop) → early_fault tokens ≡ None → Makes parsed_tree r (statement_in limited kept_statements tokens) → r ≡ Err Syntax → (s : RawStatement) → IsStatement tokens s → ⊥
refused_result tokens (Ok p) e m is s d = cc
refused_result tokens (Err Syntax) e m is s d = refused tokens s e m d
refused_result tokens (Err Memory) e m is s d = cc
