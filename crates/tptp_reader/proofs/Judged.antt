-- What the program answers to a wide statement is what the rows, the grammar and the depth give.
use Rattle.std.proofs.Common.{◌≡◌, ℕ, ◌<◌, ◌≤◌, List, length, Option, Some, None, Result, Ok, Err, refl, sym, ◌∙◌, ap, subst}
use Rattle.std.specs.Prelude.{map, slice_index, IfSome}
use Rattle.std.specs.Option.{option_map}
use Rattle.tptp_lex.specs.Lexing.{OnlyBlank}
use Rattle.tptp_reader.specs.declared.lexeme.Lexeme.{Lexeme}
use Rattle.tptp_reader.specs.declared.parse.Parsed.{Parsed}
use Rattle.tptp_reader.specs.declared.parse.Parsed.TheVariants as parsed
use Rattle.tptp_reader.specs.declared.refusal.ReadRefusal.{ReadRefusal}
use Rattle.tptp_reader.specs.declared.rows.RefusedToken.{RefusedToken}
use Rattle.tptp_reader.specs.declared.statement.Body.{Body}
use Rattle.tptp_reader.specs.declared.statement.Read.{Read}
use Rattle.tptp_reader.specs.declared.statement.Read.TheVariants as read
use Rattle.tptp_reader.specs.declared.wide.Start.{Start}
use Rattle.tptp_reader.specs.declared.wide.Start.TheVariants as starts
use Rattle.tptp_reader.specs.declared.wide.Wide.{Wide}
use Rattle.tptp_reader.specs.Accepted.{Accepts}
use Rattle.tptp_reader.specs.Answered.{answer_of, refused, IfStatement}
use Rattle.tptp_reader.specs.Answers.{Answer, Refusal, IsWide, refusal_at, Judges, faulty, ungrammatical, deeper, spelled, Answers, wide}
use Rattle.tptp_reader.specs.Counted.{fault_of}
use Rattle.tptp_reader.specs.Grammar.{IsStatement}
use Rattle.tptp_reader.specs.Parsing.{seen}
use Rattle.tptp_reader.specs.Raw.{RawStatement}
use Rattle.tptp_reader.specs.Rows.{early_fault}
use Rattle.tptp_reader.specs.Scanning.{Begins}
use Rattle.tptp_reader.specs.Tokens.{Token}
use Rattle.tptp_reader.specs.View.{body_tree}
use Rattle.tptp_reader.proofs.OneAnswer.{wide_order}

pub fault_judged : (items lent : List Lexeme) (places marks : List ℕ) (after : ℕ) (r : ReadRefusal) (o : Option RefusedToken) (f : RefusedToken) →
    lent ≡ items → marks ≡ places → option_map fault_of o ≡ early_fault (map seen lent) → o ≡ Some f →
    refused r ≡ Some (Answer.refuses (refusal_at marks (fault_of f))) → IfSome (refused r) (Judges (map seen items) places after)
fault_judged items lent places marks after r o f e p row is same =
    let here : early_fault (map seen items) ≡ Some (fault_of f) = ap (λ xs. early_fault (map seen xs)) (sym e) ∙ sym row ∙ ap (option_map fault_of) is in
    let answer : refused r ≡ Some (Answer.refuses (refusal_at places (fault_of f))) = same ∙ ap (λ xs. Some (Answer.refuses (refusal_at xs (fault_of f)))) p in
    subst (λ (a : Option Answer). IfSome a (Judges (map seen items) places after)) (sym answer) (faulty here)

pub body_judged : (items lent : List Lexeme) (places marks : List ℕ) (after at : ℕ) (p : Parsed) (b : Body) →
    lent ≡ items → marks ≡ places → early_fault (map seen lent) ≡ None → at ≡ slice_index marks 0 → p ≡ parsed.Body b → Accepts (map seen lent) p →
    Judges (map seen items) places after (Answer.reads at (body_tree b) after)
body_judged items lent places marks after at p b e q row place is a =
    let here : early_fault (map seen items) ≡ None = ap (λ xs. early_fault (map seen xs)) (sym e) ∙ row in
    let first : slice_index places 0 ≡ at = sym (place ∙ ap (λ xs. slice_index xs 0) q) in
    let accepted : Accepts (map seen items) (parsed.Body b) = subst (λ (xs : List Lexeme). Accepts (map seen xs) (parsed.Body b)) e (subst (λ (x : Parsed). Accepts (map seen lent) x) is a) in
    subst (λ (n : ℕ). Judges (map seen items) places after (Answer.reads n (body_tree b) after)) first (spelled here accepted.0 accepted.1.0)

pub deep_judged : (items lent : List Lexeme) (places marks : List ℕ) (after at : ℕ) (p : Parsed) →
    lent ≡ items → marks ≡ places → early_fault (map seen lent) ≡ None → at ≡ slice_index marks 0 → p ≡ parsed.TooDeep → Accepts (map seen lent) p →
    Judges (map seen items) places after (Answer.refuses (Refusal.too_deep at))
deep_judged items lent places marks after at p e q row place is a =
    let here : early_fault (map seen items) ≡ None = ap (λ xs. early_fault (map seen xs)) (sym e) ∙ row in
    let first : slice_index places 0 ≡ at = sym (place ∙ ap (λ xs. slice_index xs 0) q) in
    let accepted : Accepts (map seen items) parsed.TooDeep = subst (λ (xs : List Lexeme). Accepts (map seen xs) parsed.TooDeep) e (subst (λ (x : Parsed). Accepts (map seen lent) x) is a) in
    subst (λ (n : ℕ). Judges (map seen items) places after (Answer.refuses (Refusal.too_deep n))) first (deeper here accepted.spelled accepted.deep)

pub syntax_judged : (items lent : List Lexeme) (places marks : List ℕ) (after at : ℕ) →
    lent ≡ items → marks ≡ places → early_fault (map seen lent) ≡ None → at ≡ slice_index marks 0 → ((s : RawStatement) → IsStatement (map seen lent) s → ⊥) →
    Judges (map seen items) places after (Answer.refuses (Refusal.syntax at))
syntax_judged items lent places marks after at e q row place absent =
    let here : early_fault (map seen items) ≡ None = ap (λ xs. early_fault (map seen xs)) (sym e) ∙ row in
    let first : slice_index places 0 ≡ at = sym (place ∙ ap (λ xs. slice_index xs 0) q) in
    subst (λ (n : ℕ). Judges (map seen items) places after (Answer.refuses (Refusal.syntax n))) first
    (ungrammatical here (subst (λ (xs : List Lexeme). (s : RawStatement) → IsStatement (map seen xs) s → ⊥) e absent))

-- what begins at a place
pub wide_begins : (text : List ℕ) (from : ℕ) (s : Start) (w : Wide) → s ≡ starts.Wide w → Begins text from s → IsWide text from (map seen w.lexemes.items) w.places.items w.after
wide_begins text from s w e b = subst (λ (x : Start). Begins text from x) e b

pub end_begins : (text : List ℕ) (from : ℕ) (s : Start) → s ≡ starts.End → Begins text from s → OnlyBlank text from
end_begins text from s e b = subst (λ (x : Start). Begins text from x) e b

pub wide_answered : (text : List ℕ) (from : ℕ) (tokens : List Token) (places : List ℕ) (after : ℕ) (o : Option Answer) → IsWide text from tokens places after → IfSome o (Judges tokens places after) → IfSome o (Answers text from)
wide_answered text from tokens places after None w j = tt
wide_answered text from tokens places after (Some a) w j = wide w j

-- the place that is told, and the place behind the statement
abbrev told : Answer → ℕ × ℕ
told (Answer.reads at s after) = (at, after)
told a = (0, 0)

abbrev is_read : Answer → Type 0
is_read (Answer.reads at s after) = Unit {0}
is_read a = ⊥

judged_places : (tokens : List Token) (places : List ℕ) (after : ℕ) (a : Answer) → Judges tokens places after a → is_read a → told a ≡ (slice_index places 0, after)
judged_places tokens places after a (faulty e) r = absurd r
judged_places tokens places after a (ungrammatical e absent) r = absurd r
judged_places tokens places after a (deeper e s lt) r = absurd r
judged_places tokens places after a (spelled e s le) r = refl

abbrev pub InOrder : (text : List ℕ) (from : ℕ) → Result Read ReadRefusal → Type 0
InOrder text from r = IfStatement r (λ s after. (from ≤ s.at) × ((s.at < after) × (after ≤ length text)))

placed : (text : List ℕ) (from at after first behind : ℕ) → ◌≡◌ {A = ℕ × ℕ} (at, after) (first, behind) → (from ≤ first) × ((first < behind) × (behind ≤ length text)) → (from ≤ at) × ((at < after) × (after ≤ length text))
placed text from at after first behind e o = subst (λ (p : ℕ × ℕ). (from ≤ p.0) × ((p.0 < p.1) × (p.1 ≤ length text))) (sym e) o

pub in_order : (text : List ℕ) (from : ℕ) (tokens : List Token) (places : List ℕ) (after : ℕ) (r : Result Read ReadRefusal) → IsWide text from tokens places after → IfSome (answer_of r) (Judges tokens places after) → InOrder text from r
in_order text from tokens places after (Ok read.End) w j = tt
in_order text from tokens places after (Ok (read.Statement s behind)) w j =
    placed text from s.at behind (slice_index places 0) after (judged_places tokens places after (Answer.reads s.at _ behind) j tt) (wide_order text from tokens places after w)
in_order text from tokens places after (Err r) w j = tt

pub place_order : (text : List ℕ) (from : ℕ) (r : Result Read ReadRefusal) → InOrder text from r → IfStatement r (λ s after. from ≤ s.at)
place_order text from (Ok read.End) o = tt
place_order text from (Ok (read.Statement s after)) o = o.0
place_order text from (Err r) o = tt

pub after_order : (text : List ℕ) (from : ℕ) (r : Result Read ReadRefusal) → InOrder text from r → IfStatement r (λ s after. s.at < after)
after_order text from (Ok read.End) o = tt
after_order text from (Ok (read.Statement s after)) o = o.1.0
after_order text from (Err r) o = tt

pub within_order : (text : List ℕ) (from : ℕ) (r : Result Read ReadRefusal) → InOrder text from r → IfStatement r (λ s after. after ≤ length text)
within_order text from (Ok read.End) o = tt
within_order text from (Ok (read.Statement s after)) o = o.1.1
within_order text from (Err r) o = tt
