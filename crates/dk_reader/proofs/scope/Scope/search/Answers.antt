use Rattle.std.proofs.Common.{ℕ, List, Option, None, Bor, refl, ◌∙◌, ap, map, reverse}
use Rattle.std.specs.Option.{option_map}
use Rattle.dk_reader.proofs.Searched.{search_found, search_on}
use Rattle.dk_reader.proofs.scope.Scope.search.Goals as goal

pub returns-then-is_bound_by : goal.returns-then-is_bound_by
returns-then-is_bound_by c =
    search_found (λ b. option_map (λ k. k.now) b) c.as_slice-binders.result.now c.args.self.now c.args.name.now c.loop-index.index _ None c.is_bound_by.result
    (ap (λ bs. reverse (map (λ (b : Option (Bor (List ℕ))). option_map (λ (k : Bor (List ℕ)). k.now) b) bs)) c.as_slice-binders.ensures.value ∙ c.self.view_is)
    c.loop-index-test.true refl c.is_bound_by.ensures c.if-is_bound_by.true c.loop-index.invariant

pub loop-index-preserved : goal.loop-index-preserved
loop-index-preserved c =
    search_on (λ b. option_map (λ k. k.now) b) c.as_slice-binders.result.now c.args.self.now c.args.name.now c.loop-index.index _ None c.is_bound_by.result
    (ap (λ bs. reverse (map (λ (b : Option (Bor (List ℕ))). option_map (λ (k : Bor (List ℕ)). k.now) b) bs)) c.as_slice-binders.ensures.value ∙ c.self.view_is)
    c.loop-index-test.true refl c.is_bound_by.ensures c.if-is_bound_by.false c.loop-index.invariant
