-- The slow reader of terms reads what is in the grammar, and where the scan of the nesting lets a term through, it reads it.
use Rattle.std.proofs.Common.{◌≡◌, ◌<◌, ◌≤◌, ◌+◌, ◌-◌, ℕ, zero, suc, Bool, true, false, List, [], ◌∷◌, length, Option, Some, None, refl, sym, ◌∙◌, ap, subst, arith}
use Rattle.std.proofs.lemmas.Option.{some_pair_parts, none-some, same_Some}
use Rattle.tptp_lex.specs.declared.signs.Sign.TheVariants.{Open, Close, Comma}
use Rattle.tptp_reader.specs.declared.lexeme.Defined.{Defined}
use Rattle.tptp_reader.specs.declared.lexeme.Defined.TheVariants.{True, False, Individual, Truth, Kind, Other}
use Rattle.tptp_reader.specs.Raw.{Name, RawTerm, RawTerms, raw_term_depth, raw_terms_depth}
use Rattle.tptp_reader.specs.View.{raw_terms_of}
use Rattle.tptp_reader.specs.Tokens.{Token, lower, upper, defined, quoted, distinct, number, sign}
use Rattle.tptp_reader.specs.Rows.{Nesting, deeper}
use Rattle.tptp_reader.specs.Grammar.{word_of, IsTerm, term_variable, term_individual, term_truth, constant, applied, IsTerms, last_term, more_terms}
use Rattle.tptp_reader.specs.Within.{within}
use Rattle.tptp_reader.specs.Parsing.{behind, then}
use Rattle.tptp_reader.specs.SlowLists.{goes_on, made, ended_by, separated}
use Rattle.tptp_reader.specs.SlowTerms.{defined_term, symbol_term, term_by, no_terms, term_in, arguments_in}
use Rattle.tptp_reader.proofs.Behind.{behind_back}
use Rattle.tptp_reader.proofs.ReadLaws.{same_read, made_back, made_goes, ended_back, ended_goes}
use Rattle.tptp_reader.proofs.Lists.{Shrinks, Chain, last, more, chain_read, read_chain}
use Rattle.tptp_reader.proofs.Opens.{opens, inside}
use Rattle.tptp_reader.proofs.WordLaws.{word_passes}
use Rattle.tptp_reader.proofs.TermSteps.{term_upper, term_defined, term_lower, term_quoted, arguments_step}

-- what reads only terms of the grammar, or only lists of them
abbrev SoundTerm : Bool → (List Token → Option (RawTerm × List Token)) → Type 0
SoundTerm typed item = (tokens : List Token) (u : RawTerm) (rest : List Token) → item tokens ≡ Some (u, rest) → IsTerm typed tokens rest u

abbrev SoundTerms : Bool → (List Token → Option (List RawTerm × List Token)) → Type 0
SoundTerms typed items = (tokens : List Token) (us : List RawTerm) (rest : List Token) → items tokens ≡ Some (us, rest) → IsTerms typed tokens rest (raw_terms_of us)

chain_terms : (typed : Bool) (item : List Token → Option (RawTerm × List Token)) → SoundTerm typed item → (tokens rest : List Token) (us : List RawTerm) → Chain item Comma tokens rest us → IsTerms typed tokens rest (raw_terms_of us)
chain_terms typed item s tokens rest _ (last {x = u} e) = last_term (s tokens u rest e)
chain_terms typed item s tokens rest _ (more {middle = middle} {x = u} {xs = us} e c) = more_terms (s tokens u (sign Comma ∷ middle) e) (chain_terms typed item s middle rest us c)

separated_sound : (typed : Bool) (item : List Token → Option (RawTerm × List Token)) → SoundTerm typed item → SoundTerms typed (separated item Comma)
separated_sound typed item s tokens us rest e = chain_terms typed item s tokens rest us (read_chain item Comma tokens us rest e)

-- what stands in the brackets behind a symbol
bracket_sound : (typed : Bool) (arguments : List Token → Option (List RawTerm × List Token)) → SoundTerms typed arguments → (t : Token) (f : Name) → word_of t ≡ Some f → (inner : List Token) (u : RawTerm) (rest : List Token) →
    made (λ us. RawTerm.named f (raw_terms_of us)) (ended_by Close (arguments inner)) ≡ Some (u, rest) → IsTerm typed (t ∷ sign Open ∷ inner) rest u
bracket_sound typed arguments s t f w inner u rest e =
    let m = made_back (λ us. RawTerm.named f (raw_terms_of us)) (ended_by Close (arguments inner)) u rest e in
    let h = ended_back Close (arguments inner) m.from rest m.reads in
    subst (IsTerm typed (t ∷ sign Open ∷ inner) rest) m.makes (applied w (s inner m.from (sign Close ∷ rest) h))

symbol_sound : (typed : Bool) (arguments : List Token → Option (List RawTerm × List Token)) → SoundTerms typed arguments → (t : Token) (f : Name) → word_of t ≡ Some f → (tokens : List Token) (u : RawTerm) (rest : List Token) (r : Option (List Token)) → behind Open tokens ≡ r →
    goes_on r (λ rest. made (λ us. RawTerm.named f (raw_terms_of us)) (ended_by Close (arguments rest))) (Some (RawTerm.named f RawTerms.none, tokens)) ≡ Some (u, rest) → IsTerm typed (t ∷ tokens) rest u
symbol_sound typed arguments s t f w tokens u rest None b e = same_read (λ ts x. IsTerm typed (t ∷ tokens) ts x) (RawTerm.named f RawTerms.none) u tokens rest e (constant w)
symbol_sound typed arguments s t f w tokens u rest (Some inner) b e =
    subst (λ (ts : List Token). IsTerm typed (t ∷ ts) rest u) (sym (behind_back Open tokens inner b)) (bracket_sound typed arguments s t f w inner u rest e)

defined_sound : (typed : Bool) (word : Defined) (tokens : List Token) (u : RawTerm) (rest : List Token) → then {B = RawTerm × List Token} (defined_term typed word) (λ u. Some (u, tokens)) ≡ Some (u, rest) → IsTerm typed (defined word ∷ tokens) rest u
defined_sound true Individual tokens u rest e = same_read (λ ts x. IsTerm true (defined Individual ∷ tokens) ts x) RawTerm.individual u tokens rest e term_individual
defined_sound true Truth tokens u rest e = same_read (λ ts x. IsTerm true (defined Truth ∷ tokens) ts x) RawTerm.truth u tokens rest e term_truth
defined_sound true True tokens u rest e = absurd (none-some (u, rest) e)
defined_sound true False tokens u rest e = absurd (none-some (u, rest) e)
defined_sound true Kind tokens u rest e = absurd (none-some (u, rest) e)
defined_sound true Other tokens u rest e = absurd (none-some (u, rest) e)
defined_sound false word tokens u rest e = absurd (none-some (u, rest) e)

by_sound : (typed : Bool) (arguments : List Token → Option (List RawTerm × List Token)) → SoundTerms typed arguments → SoundTerm typed (term_by typed arguments)
by_sound typed arguments s (upper x ∷ tokens) u rest e = same_read (λ ts v. IsTerm typed (upper x ∷ tokens) ts v) (RawTerm.variable x) u tokens rest e term_variable
by_sound typed arguments s (defined word ∷ tokens) u rest e = defined_sound typed word tokens u rest e
by_sound typed arguments s (lower f ∷ tokens) u rest e = symbol_sound typed arguments s (lower f) f refl tokens u rest (behind Open tokens) refl e
by_sound typed arguments s (quoted f ∷ tokens) u rest e = symbol_sound typed arguments s (quoted f) f refl tokens u rest (behind Open tokens) refl e
by_sound typed arguments s [] u rest e = absurd (none-some (u, rest) e)
by_sound typed arguments s (distinct ∷ tokens) u rest e = absurd (none-some (u, rest) e)
by_sound typed arguments s (number text ∷ tokens) u rest e = absurd (none-some (u, rest) e)
by_sound typed arguments s (sign x ∷ tokens) u rest e = absurd (none-some (u, rest) e)

none_sound : (typed : Bool) → SoundTerms typed no_terms
none_sound typed tokens us rest e = absurd (none-some (us, rest) e)

-- what is read as a term is one
pub term_sound : (typed : Bool) (room : ℕ) (tokens : List Token) (u : RawTerm) (rest : List Token) → term_in typed room tokens ≡ Some (u, rest) → IsTerm typed tokens rest u
unfolding term_in
term_sound typed zero tokens u rest e = by_sound typed no_terms (none_sound typed) tokens u rest e
term_sound typed (suc room) tokens u rest e =
    by_sound typed (separated (term_in typed room) Comma) (separated_sound typed (term_in typed room) (term_sound typed room)) tokens u rest e

-- a term takes at least one token
mutual
  pub term_fewer : (typed : Bool) (tokens rest : List Token) (u : RawTerm) → IsTerm typed tokens rest u → length rest < length tokens
  term_fewer typed tokens rest u term_variable = omega arith
  term_fewer typed tokens rest u term_individual = omega arith
  term_fewer typed tokens rest u term_truth = omega arith
  term_fewer typed tokens rest u (constant w) = omega arith
  term_fewer typed _ rest _ (applied {tokens = inner} {us = us} w d) = let h = terms_fewer typed inner (sign Close ∷ rest) us d in omega arith

  terms_fewer : (typed : Bool) (tokens rest : List Token) (us : RawTerms) → IsTerms typed tokens rest us → length rest < length tokens
  terms_fewer typed tokens rest _ (last_term {u = u} d) = term_fewer typed tokens rest u d
  terms_fewer typed tokens rest _ (more_terms {middle = middle} {u = u} {us = us} d e) =
      let h = term_fewer typed tokens (sign Comma ∷ middle) u d in let k = terms_fewer typed middle rest us e in omega arith

pub term_shrinks : (typed : Bool) (room : ℕ) → Shrinks (term_in typed room)
term_shrinks typed room = record { fewer = λ tokens u rest e. (let h = term_fewer typed tokens rest u (term_sound typed room tokens u rest e) in omega arith) }

-- a term leaves the nesting as it is, and so do terms in a bracket
mutual
  pub term_passes : (typed : Bool) (s : Nesting) (tokens rest : List Token) (u : RawTerm) → IsTerm typed tokens rest u → within s tokens ≡ true → within s rest ≡ true
  term_passes typed s tokens rest u term_variable h = h
  term_passes typed s tokens rest u term_individual h = h
  term_passes typed s tokens rest u term_truth h = h
  term_passes typed s _ rest _ (constant {t = t} {f = f} w) h = word_passes t f w s rest h
  term_passes typed s _ rest _ (applied {t = t} {tokens = inner} {f = f} {us = us} w d) h =
      terms_pass typed s inner (sign Close ∷ rest) us d (inside s inner (word_passes t f w s (sign Open ∷ inner) h))

  terms_pass : (typed : Bool) (s : Nesting) (tokens rest : List Token) (us : RawTerms) → IsTerms typed tokens rest us → within (deeper s) tokens ≡ true → within (deeper s) rest ≡ true
  terms_pass typed s tokens rest _ (last_term {u = u} d) h = term_passes typed (deeper s) tokens rest u d h
  terms_pass typed s tokens rest _ (more_terms {middle = middle} {u = u} {us = us} d e) h =
      terms_pass typed s middle rest us e (term_passes typed (deeper s) tokens (sign Comma ∷ middle) u d h)

-- a term is no deeper than the scan of the nesting lets it be
mutual
  pub term_depth : (typed : Bool) (s : Nesting) (tokens rest : List Token) (u : RawTerm) → IsTerm typed tokens rest u → within s tokens ≡ true → s.count ≤ 200 → s.count + raw_term_depth u ≤ 201
  term_depth typed s tokens rest u term_variable h le = omega arith
  term_depth typed s tokens rest u term_individual h le = omega arith
  term_depth typed s tokens rest u term_truth h le = omega arith
  term_depth typed s tokens rest u (constant w) h le = omega arith
  term_depth typed s _ rest _ (applied {t = t} {tokens = inner} {f = f} {us = us} w d) h le =
      let within_bracket = word_passes t f w s (sign Open ∷ inner) h in
      let open_left = opens s inner within_bracket in
      let one_left : suc s.count ≤ 200 = omega arith in
      let ih = terms_depth typed s inner (sign Close ∷ rest) us d (inside s inner within_bracket) one_left in
      omega arith

  terms_depth : (typed : Bool) (s : Nesting) (tokens rest : List Token) (us : RawTerms) → IsTerms typed tokens rest us → within (deeper s) tokens ≡ true → suc s.count ≤ 200 → suc s.count + raw_terms_depth us ≤ 201
  terms_depth typed s tokens rest _ (last_term {u = u} d) h le = let ih = term_depth typed (deeper s) tokens rest u d h le in omega arith
  terms_depth typed s tokens rest _ (more_terms {middle = middle} {u = u} {us = us} d e) h le =
      let ih = term_depth typed (deeper s) tokens (sign Comma ∷ middle) u d h le in
      let jh = terms_depth typed s middle rest us e (term_passes typed (deeper s) tokens (sign Comma ∷ middle) u d h) le in
      omega arith

abbrev terms_list : RawTerms → List RawTerm
terms_list RawTerms.none = []
terms_list (RawTerms.more u us) = u ∷ terms_list us

listed : (us : RawTerms) → raw_terms_of (terms_list us) ≡ us
listed RawTerms.none = refl
listed (RawTerms.more u us) = ap (RawTerms.more u) (listed us)

symbol_read : (typed : Bool) (room : ℕ) (t : Token) (f : Name) → word_of t ≡ Some f → (tokens : List Token) → term_in typed room (t ∷ tokens) ≡ symbol_term (arguments_in typed room) f tokens
symbol_read typed room (lower text) f e tokens = term_lower typed room text tokens ∙ ap (λ (g : Name). symbol_term (arguments_in typed room) g tokens) (same_Some text f e)
symbol_read typed room (quoted text) f e tokens = term_quoted typed room text tokens ∙ ap (λ (g : Name). symbol_term (arguments_in typed room) g tokens) (same_Some text f e)
symbol_read typed room (upper text) f e tokens = absurd (none-some f e)
symbol_read typed room (defined word) f e tokens = absurd (none-some f e)
symbol_read typed room distinct f e tokens = absurd (none-some f e)
symbol_read typed room (number text) f e tokens = absurd (none-some f e)
symbol_read typed room (sign x) f e tokens = absurd (none-some f e)

-- where the scan of the nesting lets a term through, and no bracket follows it, it is read
mutual
  pub term_read : (typed : Bool) (room : ℕ) (s : Nesting) (tokens rest : List Token) (u : RawTerm) → IsTerm typed tokens rest u → within s tokens ≡ true → 200 ≤ room + s.count → behind Open rest ≡ None → term_in typed room tokens ≡ Some (u, rest)
  term_read typed room s _ rest _ (term_variable {x = x}) h le ends = term_upper typed room x rest
  term_read typed room s _ rest _ term_individual h le ends = term_defined true room Individual rest
  term_read typed room s _ rest _ term_truth h le ends = term_defined true room Truth rest
  term_read typed room s _ rest _ (constant {t = t} {f = f} w) h le ends =
      symbol_read typed room t f w rest
      ∙ ap (λ r. goes_on r (λ rest. made (λ us. RawTerm.named f (raw_terms_of us)) (ended_by Close (arguments_in typed room rest))) (Some (RawTerm.named f RawTerms.none, rest))) ends
  term_read typed room s _ rest _ (applied {t = t} {tokens = inner} {f = f} {us = us} w d) h le ends =
      let within_bracket = word_passes t f w s (sign Open ∷ inner) h in
      let open_left = opens s inner within_bracket in
      let some_room : 0 < room = omega arith in
      let room_left : 200 ≤ (room - 1) + suc s.count = omega arith in
      let chain = terms_chain typed (room - 1) s inner (sign Close ∷ rest) us d (inside s inner within_bracket) room_left refl in
      let reads = arguments_step typed room inner some_room ∙ chain_read (term_in typed (room - 1)) (term_shrinks typed (room - 1)) Comma inner (sign Close ∷ rest) (terms_list us) chain refl in
      symbol_read typed room t f w (sign Open ∷ inner)
      ∙ made_goes (λ us. RawTerm.named f (raw_terms_of us)) (ended_by Close (arguments_in typed room inner)) (terms_list us) rest (ended_goes Close (arguments_in typed room inner) (terms_list us) rest reads)
      ∙ ap (λ vs. Some (RawTerm.named f vs, rest)) (listed us)

  terms_chain : (typed : Bool) (room : ℕ) (s : Nesting) (tokens rest : List Token) (us : RawTerms) → IsTerms typed tokens rest us → within (deeper s) tokens ≡ true → 200 ≤ room + suc s.count → behind Open rest ≡ None → Chain (term_in typed room) Comma tokens rest (terms_list us)
  terms_chain typed room s tokens rest _ (last_term {u = u} d) h le ends = last (term_read typed room (deeper s) tokens rest u d h le ends)
  terms_chain typed room s tokens rest _ (more_terms {middle = middle} {u = u} {us = us} d e) h le ends =
      more (term_read typed room (deeper s) tokens (sign Comma ∷ middle) u d h le refl)
      (terms_chain typed room s middle rest us e (term_passes typed (deeper s) tokens (sign Comma ∷ middle) u d h) le ends)

-- one front of the tokens at most spells a term, where no bracket follows, and it spells one
pub one_term : (typed : Bool) (s : Nesting) (tokens xs ys : List Token) (u v : RawTerm) → within s tokens ≡ true → IsTerm typed tokens xs u → IsTerm typed tokens ys v → behind Open xs ≡ None → behind Open ys ≡ None → (u ≡ v) × (xs ≡ ys)
one_term typed s tokens xs ys u v h d e p q =
    some_pair_parts u v xs ys (sym (term_read typed 200 s tokens xs u d h (omega arith) p) ∙ term_read typed 200 s tokens ys v e h (omega arith) q)
