use Rattle.std.proofs.Common.{◌≡◌, ◌+◌, ◌^◌, ◌<◌, ◌++◌, length, take, drop, decimal}
use Rattle.fields.proofs.writing.put_digits.Given as goal

-- the digits of `left` still have to be written, up to the column `at`; those behind them are written
abbrev pub invariant-loop-left : goal.invariant-loop-left
invariant-loop-left l = record {
  within : l.at < length l.columns;
  room : l.left < 10 ^ (l.at + 1);
  digits : decimal l.fn.n ≡ decimal l.left ++ drop (l.at + 1) l.columns;
  before : take (l.at + 1) l.columns ≡ take (l.at + 1) l.fn.columns;
}

abbrev pub decreases-loop-left : goal.decreases-loop-left
decreases-loop-left l = l.left
