use Rattle.std.proofs.Common.{◌≡◌, ◌∙◌, ℤ, suc, List, Some, None, length, arith, sym, subst}
use Rattle.d_search.specs.declared.outcome.Verdict.TheVariants.{Least}
use Rattle.d_search.specs.Grown.{IsGrown}
use Rattle.d_search.specs.Growths.{IsHeld}
use Rattle.d_search.specs.Problems.{rules_of}
use Rattle.d_search.proofs.FrontFacts.{first_taken, rest_waits, none_taken}
use Rattle.d_search.proofs.KeptFacts.{below_so_far}
use Rattle.d_search.proofs.RuleFacts.{bounds_billed}
use Rattle.d_search.proofs.SplitFacts.{length_split}
use Rattle.d_search.proofs.EndFacts.{least_there, outcome_found, outcome_none, none_there, some_there}
use Rattle.d_search.proofs.searches.grow.Goals as goal

pub loop-key-init : goal.loop-key-init
loop-key-init c = record {
  bounder = c.add_root.ensures.bounder;
  grown = (0, c.add_root.ensures.nodes);
  held = c.add_root.ensures.held;
  places = c.add_root.ensures.places ∙ c.requires.room.growth.places;
}

pub verdict_at-requires : goal.verdict_at-requires
verdict_at-requires c = omega (arith, c.loop-key.growth.nodes.ok.0, c.loop-key.invariant.held.within, c.loop-key.invariant.places)

pub finish-requires : goal.finish-requires
finish-requires c = omega (arith, c.loop-key.invariant.held.within, c.loop-key.invariant.held.few)

pub returns-in-Some-verdict_at : goal.returns-in-Some-verdict_at
returns-in-Some-verdict_at c =
    let lists = c.loop-key.bounder.candidates in
    let r = rules_of c.args.problem.now lists in
    let g = c.loop-key.growth in
    let inv = c.loop-key.invariant in
    let complete = bounds_billed c.bounds_come_with_bills.ensures c.args.problem.now lists in
    let first = first_taken r g.front.keys g.nodes.items inv.held.front c.in-Some.key c.take_least.new.self.keys c.in-Some.ensures.taken in
    let least = least_there r complete inv.grown.0 g.nodes.items inv.grown.1 c.in-Some.key g.bill g.kept.items first inv.held.least in
    let count : c.len-count.result ≡ length g.nodes.items = omega (arith, g.nodes.ok.0) in
    record {
      outcome = record {
        lists = lists;
        candidates = inv.bounder.candidates;
        outcome = outcome_found r complete inv.grown.0 g.nodes.items inv.grown.1 c.args.room.budget (omega (arith, inv.held.within, inv.places)) c.finish.result g.bill g.kept.items
            c.in-Some-verdict_at.verdict (Some c.in-Some.key)
            (record { tree = c.finish.ensures.tree; bill_is = c.finish.ensures.bill; schedule = c.finish.ensures.schedule; verdict_is = c.finish.ensures.verdict; lower = c.finish.ensures.lower })
            inv.held.least first (rw count at c.in-Some-verdict_at.ensures) least.0 least.1;
      };
    }

pub split_leaf-requires-clause-bounder : goal.split_leaf-requires-clause-bounder
split_leaf-requires-clause-bounder c = c.loop-key.invariant.bounder

pub split_leaf-requires-clause-held : goal.split_leaf-requires-clause-held
split_leaf-requires-clause-held c =
    let r = rules_of c.args.problem.now c.loop-key.bounder.candidates in
    let held = c.loop-key.invariant.held in
    record {
      few = omega (arith, held.few, c.take_least.ensures.room);
      space = omega (arith, held.space, c.take_least.ensures.room);
      within = omega (arith, held.within, c.take_least.ensures.room);
      front = rest_waits r c.loop-key.growth.front.keys c.loop-key.growth.nodes.items held.front c.in-Some.key c.take_least.new.self.keys c.in-Some.ensures.taken;
      least = held.least;
      boxed = held.boxed;
      kept = held.kept;
      trial = held.trial;
    }

pub split_leaf-requires-clause-first : goal.split_leaf-requires-clause-first
split_leaf-requires-clause-first c =
    first_taken (rules_of c.args.problem.now c.loop-key.bounder.candidates) c.loop-key.growth.front.keys c.loop-key.growth.nodes.items c.loop-key.invariant.held.front
    c.in-Some.key c.take_least.new.self.keys c.in-Some.ensures.taken

pub split_leaf-requires-clause-below : goal.split_leaf-requires-clause-below
split_leaf-requires-clause-below c =
    below_so_far (rules_of c.args.problem.now c.loop-key.bounder.candidates) c.loop-key.growth.nodes.items c.loop-key.growth.bill c.loop-key.growth.kept.items c.in-Some.key.bound
    c.loop-key.invariant.held.least c.in_default-verdict_at.ensures.0

pub split_leaf-requires-clause-room : goal.split_leaf-requires-clause-room
split_leaf-requires-clause-room c =
    omega (arith, c.in_default-verdict_at.ensures.2, c.loop-key.growth.nodes.ok.0, c.take_least.ensures.room, c.loop-key.invariant.places)

pub loop-key-smaller : goal.loop-key-smaller
loop-key-smaller c =
    let r = rules_of c.args.problem.now c.loop-key.bounder.candidates in
    omega (arith, length_split r c.loop-key.growth.nodes.items c.split_leaf.new.growth.nodes.items c.split_leaf.ensures.split, c.loop-key.invariant.held.within, c.loop-key.invariant.places)

pub loop-key-preserved : goal.loop-key-preserved
loop-key-preserved c =
    let i = c.args.problem.now in
    let inv = c.loop-key.invariant in
    let candidates = sym c.split_leaf.ensures.candidates in
    record {
      bounder = c.split_leaf.ensures.bounder;
      grown = subst (λ (l : List (List ℤ)). IsGrown (rules_of i l) c.split_leaf.new.growth.nodes.items) candidates
          (suc inv.grown.0, (c.loop-key.growth.nodes.items, inv.grown.1, c.split_leaf.ensures.split));
      held = subst (λ (l : List (List ℤ)). IsHeld i l c.split_leaf.new.growth None) candidates c.split_leaf.ensures.held;
      places = c.split_leaf.ensures.places ∙ (c.take_least.ensures.room ∙ inv.places);
    }

pub nothing-requires : goal.nothing-requires
nothing-requires c = omega (arith, c.loop-key.invariant.held.within, c.loop-key.invariant.held.few)

pub returns-then-is_none : goal.returns-then-is_none
returns-then-is_none c =
    let lists = c.loop-key.bounder.candidates in
    let r = rules_of c.args.problem.now lists in
    let g = c.loop-key.growth in
    let inv = c.loop-key.invariant in
    let complete = bounds_billed c.bounds_come_with_bills.ensures c.args.problem.now lists in
    record {
      outcome = record {
        lists = lists;
        candidates = inv.bounder.candidates;
        outcome = outcome_none r complete inv.grown.0 g.nodes.items inv.grown.1 c.args.room.budget (omega (arith, inv.held.within, inv.places)) c.nothing.result g.bill g.kept.items
            c.nothing.ensures.tree c.nothing.ensures.none (none_there g.bill c.if-is_none.ensures) inv.held.least;
      };
    }

pub finish-requires-2 : goal.finish-requires-2
finish-requires-2 c = omega (arith, c.loop-key.invariant.held.within, c.loop-key.invariant.held.few)

pub returns : goal.returns
returns c =
    let lists = c.loop-key.bounder.candidates in
    let r = rules_of c.args.problem.now lists in
    let g = c.loop-key.growth in
    let inv = c.loop-key.invariant in
    let complete = bounds_billed c.bounds_come_with_bills.ensures c.args.problem.now lists in
    let none = none_taken r g.front.keys g.nodes.items inv.held.front c.take_least.new.self.keys c.in_default.ensures.taken in
    let least = some_there g.bill c.if-is_none.ensures in
    record {
      outcome = record {
        lists = lists;
        candidates = inv.bounder.candidates;
        outcome = outcome_found r complete inv.grown.0 g.nodes.items inv.grown.1 c.args.room.budget (omega (arith, inv.held.within, inv.places)) c.finish-2.result g.bill g.kept.items
            Least None
            (record { tree = c.finish-2.ensures.tree; bill_is = c.finish-2.ensures.bill; schedule = c.finish-2.ensures.schedule; verdict_is = c.finish-2.ensures.verdict; lower = c.finish-2.ensures.lower })
            inv.held.least none (λ bill is. tt) least.0 least.1;
      };
    }
