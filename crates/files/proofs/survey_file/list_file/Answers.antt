use Rattle.std.proofs.Common.{◌≡◌, Err, arith, rules}
use Rattle.std.proofs.lemmas.Grind.{common_steps}
use Rattle.files.specs.declared.fault.FileRefusal.TheVariants.{Fault}
use Rattle.files.specs.Faults.{number_of_file, line_of_file}
use Rattle.files.specs.Listings.{Writes, fault_line}
use Rattle.files.specs.Tables.{room_in}
use Rattle.files.proofs.Clearings.{answered, refuses_then, cleared_again}
use Rattle.files.proofs.FaultLines.{line_bounded}
use Rattle.files.proofs.survey_file.list_file.Goals as goal

pub write_fault-requires-clause-line : goal.write_fault-requires-clause-line
write_fault-requires-clause-line c =
    let fault = c.in-Err-Fault.fault in
    let e : c.list_row-listed.result ≡ Err (Fault fault) = grind (arith, common_steps) in
    let h = rw e at c.list_row-listed.ensures in
    omega (arith, line_bounded (room_in c.clear.new.self) c.args.file.now (number_of_file fault) (line_of_file fault) h.0.1)

pub returns-else-output-lt-OUTPUT_ROOM-2 : goal.returns-else-output-lt-OUTPUT_ROOM-2
returns-else-output-lt-OUTPUT_ROOM-2 c = answered c.args.tables.now c.clear.new.self c.clear.ensures c.args.file.now c.list_row-listed.new.tables c.args.output.now c.list_row-listed.new.output
    c.list_row-listed.result c.if-output-lt-OUTPUT_ROOM.false (λ f e. grind (arith, common_steps)) c.list_row-listed.ensures

pub returns-in-Err-Fault : goal.returns-in-Err-Fault
returns-in-Err-Fault c =
    let t = c.args.tables.now in
    let t1 = c.clear.new.self in
    let file = c.args.file.now in
    let fault = c.in-Err-Fault.fault in
    let e : c.list_row-listed.result ≡ Err (Fault fault) = grind (arith, common_steps) in
    let h = rw e at c.list_row-listed.ensures in
    let writes : Writes c.args.output.now c.write_fault.new.output (fault_line (number_of_file fault) (line_of_file fault)) = rw h.1 at c.write_fault.ensures in
    rw e (
      c.if-output-lt-OUTPUT_ROOM.false,
      refuses_then t t1 c.clear.ensures file (number_of_file fault) (line_of_file fault) h.0.1,
      cleared_again t t1 c.clear.ensures c.list_row-listed.new.tables _ h.0.0 (search rules),
      writes,
    )
