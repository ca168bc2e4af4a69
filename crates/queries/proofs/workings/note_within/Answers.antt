use Rattle.std.proofs.Common.{refl}
use Rattle.std.proofs.Math.Seq.{map-set_same}
use Rattle.queries.specs.Entries.{dealt_of}
use Rattle.queries.proofs.Readers.{noted_within}
use Rattle.queries.proofs.workings.note_within.Goals as goal

pub returns-in_ok-push-clause-dealt : goal.returns-in_ok-push-clause-dealt
returns-in_ok-push-clause-dealt c = map-set_same dealt_of c.args.entries.now c.args.read _ c.index-entries-read-then-entries-reader.result refl

pub returns-in_ok-push-clause-readers : goal.returns-in_ok-push-clause-readers
returns-in_ok-push-clause-readers c = noted_within c.args.entries.now c.args.read c.args.reader c.requires.read c.requires.reader c.index-entries-reader.result c.index-entries-read.result c.index-entries-read-then-entries-reader.result _ c.in_ok-push.ensures.items c.if-entries-reader.true
