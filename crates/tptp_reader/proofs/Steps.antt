-- One step of the slow reader, as the code takes it.
use Rattle.std.proofs.Common.{◌≡◌, ℕ, zero, suc, ◌-◌, ◌<◌, Bool, List, refl, sym, ap, arith}
use Rattle.tptp_reader.specs.Tokens.{Token}
use Rattle.tptp_reader.specs.Parsing.{first_sign}
use Rattle.tptp_reader.specs.SlowForms.{Values, atom_in, unit_by, unit_in, head_of}

pub unit_full : {A : Type 0} (v : Values A) (typed : Bool) (room : ℕ) (tokens : List Token) → room ≡ 0 → unit_in v typed room tokens ≡ atom_in v typed 0 tokens
unfolding unit_in
unit_full v typed zero tokens e = refl
unit_full v typed (suc room) tokens e = absurd (omega arith)

pub unit_more : {A : Type 0} (v : Values A) (typed : Bool) (room : ℕ) (tokens : List Token) → 0 < room → unit_in v typed room tokens ≡ unit_by v typed (room - 1) (atom_in v typed room) (unit_in v typed (room - 1)) tokens (head_of (first_sign tokens))
unfolding unit_in
unit_more v typed zero tokens h = absurd (omega arith)
unit_more v typed (suc room) tokens h =
    let one : suc room - 1 ≡ room = omega arith in
    sym (ap (λ n. unit_by v typed n (atom_in v typed (suc room)) (unit_in v typed n) tokens (head_of (first_sign tokens))) one)

pub ruleset unit_steps = (unit_full, unit_more)
