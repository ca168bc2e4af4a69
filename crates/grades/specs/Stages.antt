-- Stage sets stage by stage, and their laws, each from that of yes and no at every stage.
use Rattle.std.specs.Prelude.{◌≡◌, ℕ, ◌-◌, ◌^◌, ◌<◌, Bool, false, not, ◌&&◌, bit_and, refl}
use Rattle.std.proofs.Common.{sym, ap, ◌∙◌, inl, inr, zero-le, arith, rules, eqb→eq, lit<, lit≤}
use mathlib.Core.HLevel.{is_prop→PathP}
use Rattle.std.proofs.Math.Bridge.{le_prop}
use Rattle.std.proofs.lemmas.Nat.{ones-le}
use Rattle.std.proofs.Math.Dec.{eqb_refl}
use Rattle.grades.specs.ByStage.{KeptByStage, EqualByStage}
use Rattle.grades.specs.Kind.{Below, Laws}
use Rattle.grades.specs.StageSets.{bit, digit, stage_sets}
use Rattle.grades.specs.YesNo.{yes_no, yes_no_laws}
use Rattle.grades.specs.declared.stage_set.StageSet.{StageSet}
use Rattle.grades.specs.Digits.{digits_tell, digit_past, digit_and, digit_or, digit_turned, ones_rise}

-- a set is its number
pub same_bits : (x y : StageSet) → x.stages ≡ y.stages → x ≡ y
same_bits x y e = λ i. record { stages = e i; fits = is_prop→PathP (λ j. e j < 2 ^ 32) (λ j. le_prop) x.fits y.fits i }

pub equal_by_stage : EqualByStage
equal_by_stage x y same = same_bits x y (digits_tell 32 x.stages y.stages x.fits y.fits same)

digit_none : (s : ℕ) → digit s 0 ≡ false
digit_none s = digit_past 0 s 0 (lit< tt) zero-le

pub kept_by_stage : KeptByStage
kept_by_stage s h = record {
  joined = λ x y. digit_or s x.stages y.stages;
  met = λ x y. digit_and s x.stages y.stages;
  turned = λ x. digit_turned 32 s x.stages (2 ^ 32 - 1 - x.stages) (let f = x.fits in omega arith) h;
  lowest = digit_none s;
  highest = digit_turned 32 s 0 (2 ^ 32 - 1) refl h ∙ ap not (digit_none s);
}

-- no lies below yes: the order of yes and no is implication
absorbed : (a b : Bool) → (a && b) ≡ a → Below yes_no a b
absorbed a b e = search rules

absorbs : (a b : Bool) → Below yes_no a b → (a && b) ≡ a
absorbs a b h = search rules

pub at_stage : (x y : StageSet) → Below stage_sets x y → (s : ℕ) → Below yes_no (bit s x) (bit s y)
at_stage x y h s = absorbed (bit s x) (bit s y) (sym (digit_and s x.stages y.stages) ∙ ap (digit s) (eqb→eq _ _ h))

pub from_stages : (x y : StageSet) → ((s : ℕ) → s < 32 → Below yes_no (bit s x) (bit s y)) → Below stage_sets x y
from_stages x y below =
    let same : bit_and x.stages y.stages ≡ x.stages =
    digits_tell 32 (bit_and x.stages y.stages) x.stages (stage_sets.met x y).fits x.fits
    (λ s l. digit_and s x.stages y.stages ∙ absorbs (bit s x) (bit s y) (below s l)) in
    rw same (eqb_refl x.stages)

pub stage_set_laws : Laws stage_sets
stage_set_laws = record {
  below_refl = λ x. from_stages x x (λ s _. yes_no_laws.below_refl (bit s x));
  below_trans = λ x y z f g. from_stages x z (λ s _. yes_no_laws.below_trans (bit s x) (bit s y) (bit s z) (at_stage x y f s) (at_stage y z g s));
  below_antisym = λ x y f g. equal_by_stage x y (λ s _. yes_no_laws.below_antisym _ _ (at_stage x y f s) (at_stage y x g s));
  join_left = λ x y. from_stages x (stage_sets.joined x y) (λ s l. rw digit_or (yes_no_laws.join_left (bit s x) (bit s y)));
  join_right = λ x y. from_stages y (stage_sets.joined x y) (λ s l. rw digit_or (yes_no_laws.join_right (bit s x) (bit s y)));
  join_least = λ x y z f g. from_stages (stage_sets.joined x y) z (λ s l. rw digit_or (yes_no_laws.join_least _ _ (bit s z) (at_stage x z f s) (at_stage y z g s)));
  meet_left = λ x y. from_stages (stage_sets.met x y) x (λ s l. rw digit_and (yes_no_laws.meet_left (bit s x) (bit s y)));
  meet_right = λ x y. from_stages (stage_sets.met x y) y (λ s l. rw digit_and (yes_no_laws.meet_right (bit s x) (bit s y)));
  meet_greatest = λ x y z f g. from_stages z (stage_sets.met x y) (λ s l. rw digit_and (yes_no_laws.meet_greatest _ _ (bit s z) (at_stage z x f s) (at_stage z y g s)));
  lowest_below = λ x. eqb_refl 0;
  below_highest = λ x. from_stages x stage_sets.highest (λ s l. rw (kept_by_stage s l).highest (yes_no_laws.below_highest (bit s x)));
  turn_twice = λ x. same_bits _ x (let f = x.fits in omega arith);
  turn_reverses = λ x y h. from_stages (stage_sets.turned y) (stage_sets.turned x)
      (λ s l. rw ((kept_by_stage s l).turned x, (kept_by_stage s l).turned y) (yes_no_laws.turn_reverses (bit s x) (bit s y) (at_stage x y h s)));
  rank_rises = λ x y h. elim (ones_rise 32 x.stages y.stages x.fits y.fits (eqb→eq _ _ h)) [
    | inl e ↦ inl (same_bits x y e)
    | inr l ↦ inr l
  ];
  rank_bounded = λ x. ones-le 32 x.stages x.fits;
  height_bounded = lit≤ tt;
}
