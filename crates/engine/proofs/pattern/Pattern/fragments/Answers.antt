use Rattle.std.proofs.Common.{◌≡◌, ◌+◌, ◌<◌, ◌≤◌, [], length, drop, ap, subst, arith, rules}
use Rattle.patterns.specs.Fragments.{cut_from, fragments}
use Rattle.engine.specs.Compiled.{Hold}
use Rattle.engine.specs.Reading.{held}
use Rattle.engine.proofs.Assembling.{ends_within, starts_within, pushed_more, pushed_last, counted_more}
use Rattle.engine.proofs.Counting.{few_fragments, some_fragment}
use Rattle.engine.proofs.pattern.Pattern.fragments.Goals as goal
use Rattle.engine.proofs.pattern.Pattern.fragments.Goals.{After-cut_first-cut, In-Some}

-- the fragment that was cut off ends within the parts
ends : (c : After-cut_first-cut) → c.loop-start.first + c.cut_first-cut.result.end ≤ length c.as_slice-parts.result.now
ends c =
    ends_within c.args.self.now c.as_slice-parts.result.now c.as_slice-parts.ensures.value c.loop-start.first c.loop-start.invariant.0 c.cut_first-cut.result c.cut_first-cut.ensures

-- the next one starts later, within the parts
starts : (c : In-Some) → (c.loop-start.first < c.loop-start.first + c.in-Some.start) × (c.loop-start.first + c.in-Some.start < length c.as_slice-parts.result.now)
starts c =
    starts_within c.args.self.now c.as_slice-parts.result.now c.as_slice-parts.ensures.value c.loop-start.first c.loop-start.invariant.0 c.cut_first-cut.result c.cut_first-cut.ensures c.in-Some.start c.in-Some.between c.in-Some.is

pub loop-start-init : goal.loop-start-init
loop-start-init c =
    let few = few_fragments c.args.lo (held c.args.self.now) c.requires.within in
    let items = held c.args.self.now in
    let gap : cut_from c.from-break_before.result [] [] items ≡ fragments c.args.lo items = ap (λ n. cut_from n [] [] items) c.from-break_before.ensures in
    let none = c.requires.empty in (
      omega arith,
      λ fs rest. rw none (subst (Hold c.args.reference items fs) gap rest),
      omega (arith, ap length none, ap length gap),
    )

pub overflow_add-first : goal.overflow_add-first
overflow_add-first c = let h = ends (goal.at.overflow_add-first c).After-cut_first-cut in search rules

pub fragment_at-requires-clause-inside : goal.fragment_at-requires-clause-inside
fragment_at-requires-clause-inside c =
    let h = ends (goal.at.fragment_at-requires-clause-inside c).After-cut_first-cut in
    let same = ap length c.as_slice-parts.ensures.value in
    omega arith

pub push-requires : goal.push-requires
push-requires c = let some = some_fragment c.loop-start.break_before (drop c.loop-start.first (held c.args.self.now)) in (omega arith, omega (arith, c.loop-start.invariant.2))

pub returns-in_default : goal.returns-in_default
returns-in_default c =
    pushed_last c.args.self.now c.as_slice-parts.result.now c.as_slice-parts.ensures.value c.loop-start.first c.loop-start.invariant.0 c.cut_first-cut.result c.cut_first-cut.ensures
    c.in_default.is c.args.reference c.loop-start.break_before c.fragment_at.result c.fragment_at.ensures
    c.loop-start.fragments.items c.push.new.self.items _ c.loop-start.invariant.1 c.push.ensures.items

pub overflow_add-first-in-loop-start : goal.overflow_add-first-in-loop-start
overflow_add-first-in-loop-start c = let h = starts (goal.at.overflow_add-first-in-loop-start c).In-Some in search rules

pub loop-start-smaller : goal.loop-start-smaller
loop-start-smaller c = let h = starts (goal.at.loop-start-smaller c).In-Some in omega arith

pub loop-start-preserved : goal.loop-start-preserved
loop-start-preserved c =
    let h = starts (goal.at.loop-start-preserved c).In-Some in (
      omega arith,
      pushed_more c.args.self.now c.as_slice-parts.result.now c.as_slice-parts.ensures.value c.loop-start.first c.loop-start.invariant.0 c.cut_first-cut.result c.cut_first-cut.ensures
          c.in-Some.start c.in-Some.between c.in-Some.is c.args.reference c.loop-start.break_before c.fragment_at.result c.fragment_at.ensures
          c.loop-start.fragments.items c.push.new.self.items _ c.loop-start.invariant.1 c.push.ensures.items,
      counted_more c.args.self.now c.as_slice-parts.result.now c.as_slice-parts.ensures.value c.loop-start.first c.loop-start.invariant.0 c.cut_first-cut.result c.cut_first-cut.ensures
          c.in-Some.start c.in-Some.between c.in-Some.is c.loop-start.break_before c.fragment_at.result c.loop-start.fragments.items c.push.new.self.items c.loop-start.invariant.2 c.push.ensures.items,
    )
