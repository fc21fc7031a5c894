-- Names, as they are read.
use Rattle.std.proofs.Common.{◌≡◌, List, [], ◌∷◌, Option, Some, refl, sym, ◌∙◌, ap, subst}
use Rattle.std.proofs.lemmas.Option.{some_pair_parts, none-some}
use Rattle.tptp_lex.specs.declared.signs.Sign.TheVariants.{OpenList, CloseList, Comma}
use Rattle.tptp_reader.specs.Raw.{Name}
use Rattle.tptp_reader.specs.Tokens.{Token, lower, quoted, sign}
use Rattle.tptp_reader.specs.Parsing.{behind, then}
use Rattle.tptp_reader.specs.Grammar.{IsNames, last_name, more_names}
use Rattle.tptp_reader.specs.SlowLists.{separated}
use Rattle.tptp_reader.specs.SlowStatements.{lower_in, quoted_in, names_in, with_comma}
use Rattle.tptp_reader.specs.SlowWords.{name_in}
use Rattle.tptp_reader.proofs.WordLaws.{name_sound, name_read, name_shrinks}
use Rattle.tptp_reader.proofs.Behind.{behind_back}
use Rattle.tptp_reader.proofs.ReadLaws.{then_back}
use Rattle.tptp_reader.proofs.Lists.{Chain, last, more, chain_read, read_chain}

-- the lower that comes first
pub lower_back : (tokens : List Token) (text : Name) (rest : List Token) → lower_in tokens ≡ Some (text, rest) → tokens ≡ lower text ∷ rest
unfolding lower_in
lower_back (lower word ∷ after) text rest e = let same = some_pair_parts word text after rest e in ap (λ (w : Name). lower w ∷ after) same.0 ∙ ap (λ (ts : List Token). lower text ∷ ts) same.1
lower_back tokens text rest e = absurd (none-some (text, rest) e)

pub lower_goes : (text : Name) (rest : List Token) → lower_in (lower text ∷ rest) ≡ Some (text, rest)
unfolding lower_in
lower_goes text rest = refl

pub quoted_back : (tokens : List Token) (text : Name) (rest : List Token) → quoted_in tokens ≡ Some (text, rest) → tokens ≡ quoted text ∷ rest
unfolding quoted_in
quoted_back (quoted word ∷ after) text rest e = let same = some_pair_parts word text after rest e in ap (λ (w : Name). quoted w ∷ after) same.0 ∙ ap (λ (ts : List Token). quoted text ∷ ts) same.1
quoted_back tokens text rest e = absurd (none-some (text, rest) e)

pub quoted_goes : (text : Name) (rest : List Token) → quoted_in (quoted text ∷ rest) ≡ Some (text, rest)
unfolding quoted_in
quoted_goes text rest = refl

-- a comma behind
pub comma_back : (read : Option (Name × List Token)) (name : Name) (rest : List Token) → with_comma read ≡ Some (name, rest) → read ≡ Some (name, sign Comma ∷ rest)
comma_back read name rest e =
    let a = then_back read (λ x. then (behind Comma x.1) (λ more. Some (x.0, more))) (name, rest) e in
    let b = then_back (behind Comma a.middle.1) (λ more. Some (a.middle.0, more)) (name, rest) a.second in
    let same = some_pair_parts a.middle.0 name b.middle rest b.second in
    a.first ∙ ap (λ (n : Name). Some (n, a.middle.1)) same.0 ∙ ap (λ (ts : List Token). Some (name, ts)) (behind_back Comma a.middle.1 b.middle b.first ∙ ap (λ (ts : List Token). sign Comma ∷ ts) same.1)

pub comma_goes : (read : Option (Name × List Token)) (name : Name) (rest : List Token) → read ≡ Some (name, sign Comma ∷ rest) → with_comma read ≡ Some (name, rest)
comma_goes read name rest e = ap with_comma e

-- a list of names
chain_names : (tokens rest : List Token) (names : List Name) → Chain name_in Comma tokens rest names → IsNames tokens rest names
chain_names tokens rest _ (last {x = name} e) =
    let n = name_sound tokens name rest e in
    subst (λ (ts : List Token). IsNames ts rest (name ∷ [])) (sym n.begins) (last_name n.is_name)
chain_names tokens rest _ (more {middle = middle} {x = name} {xs = names} e c) =
    let n = name_sound tokens name (sign Comma ∷ middle) e in
    subst (λ (ts : List Token). IsNames ts rest (name ∷ names)) (sym n.begins) (more_names n.is_name (chain_names middle rest names c))

names_chain : (tokens rest : List Token) (names : List Name) → IsNames tokens rest names → Chain name_in Comma tokens rest names
names_chain _ rest _ (last_name {t = t} {name = name} e) = last (name_read t name rest e)
names_chain _ rest _ (more_names {t = t} {tokens = tokens} {name = name} {names = names} e d) = more (name_read t name (sign Comma ∷ tokens) e) (names_chain tokens rest names d)

-- the names in their brackets
pub record Listed (tokens : List Token) (names : List Name) (rest : List Token) : Type 0 where
  pub inside : List Token
  pub front : tokens ≡ sign OpenList ∷ inside
  pub are : IsNames inside (sign CloseList ∷ rest) names

pub names_back : (tokens : List Token) (names : List Name) (rest : List Token) → names_in tokens ≡ Some (names, rest) → Listed tokens names rest
unfolding names_in
names_back tokens names rest e =
    let a = then_back (behind OpenList tokens) (λ first. then (separated name_in Comma first) (λ x. then (behind CloseList x.1) (λ more. Some (x.0, more)))) (names, rest) e in
    let b = then_back (separated name_in Comma a.middle) (λ x. then (behind CloseList x.1) (λ more. Some (x.0, more))) (names, rest) a.second in
    let c = then_back (behind CloseList b.middle.1) (λ more. Some (b.middle.0, more)) (names, rest) b.second in
    let same = some_pair_parts b.middle.0 names c.middle rest c.second in
    let after = behind_back CloseList b.middle.1 c.middle c.first ∙ ap (λ (ts : List Token). sign CloseList ∷ ts) same.1 in
    record {
      inside = a.middle;
      front = behind_back OpenList tokens a.middle a.first;
      are = chain_names a.middle (sign CloseList ∷ rest) names (read_chain name_in Comma a.middle names (sign CloseList ∷ rest)
          (b.first ∙ ap (λ (ns : List Name). Some (ns, b.middle.1)) same.0 ∙ ap (λ (ts : List Token). Some (names, ts)) after));
    }

pub names_go : (tokens rest : List Token) (names : List Name) → IsNames tokens (sign CloseList ∷ rest) names → names_in (sign OpenList ∷ tokens) ≡ Some (names, rest)
unfolding names_in
names_go tokens rest names d =
    ap (λ r. then r (λ x. then (behind CloseList x.1) (λ more. Some (x.0, more)))) (chain_read name_in name_shrinks Comma tokens (sign CloseList ∷ rest) names (names_chain tokens (sign CloseList ∷ rest) names d) refl)
