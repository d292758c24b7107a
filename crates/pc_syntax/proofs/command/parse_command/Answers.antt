use Rattle.std.proofs.Common.{Ok, Err, Some, None, arith, rules}
use Rattle.pc_syntax.specs.declared.tree.CommandFault.TheVariants.{NotUtf8}
use Rattle.pc_syntax.specs.Fault.{no_text}
use Rattle.pc_syntax.specs.Tree.{asked_of}
use Rattle.pc_syntax.specs.Command.{IsCommandReading, asks, empty_command, faulty_command}
use Rattle.pc_syntax.specs.Told.{IsLone}
use Rattle.pc_syntax.proofs.ReadLine.{is_nothing, something}
use Rattle.pc_syntax.proofs.CommandTold.{tells, lone_told, command_told, refused_told, memory_taken, sized_command, nested_command}
use Rattle.pc_syntax.proofs.command.parse_command.Goals as goal

pub returns-in_default-clause-told : goal.returns-in_default-clause-told
returns-in_default-clause-told c = faulty_command (no_text c.in_default.ensures.cases.0)

pub returns-in_default-clause-only : goal.returns-in_default-clause-only
returns-in_default-clause-only c = tells c.args.line.now (Err NotUtf8) (faulty_command (no_text c.in_default.ensures.cases.0))

pub returns-then-is_nothing-clause-told : goal.returns-then-is_nothing-clause-told
returns-then-is_nothing-clause-told c = empty_command (is_nothing c.in-Ok.text.now c.args.line.now c.in-Ok.ensures.cases.0 c.in-Ok.ensures.cases.1 (c.is_nothing.ensures.blank c.if-is_nothing.true))

pub returns-then-is_nothing-clause-only : goal.returns-then-is_nothing-clause-only
returns-then-is_nothing-clause-only c = tells c.args.line.now (Ok None) (empty_command (is_nothing c.in-Ok.text.now c.args.line.now c.in-Ok.ensures.cases.0 c.in-Ok.ensures.cases.1 (c.is_nothing.ensures.blank c.if-is_nothing.true)))

pub returns-in-Some-clause-told : goal.returns-in-Some-clause-told
returns-in-Some-clause-told c =
    let some = something c.in-Ok.text.now c.args.line.now c.in-Ok.ensures.cases.0 _ c.if-is_nothing.false c.is_nothing.ensures.neither in
    lone_told c.in-Ok.text.now c.args.line.now c.in-Ok.ensures.cases.0 c.in-Ok.ensures.cases.1 some (asked_of c.in-Some.command) c.in-Some.ensures.0 c.in-Some.ensures.1

pub returns-in-Some-clause-only : goal.returns-in-Some-clause-only
returns-in-Some-clause-only c =
    let some = something c.in-Ok.text.now c.args.line.now c.in-Ok.ensures.cases.0 _ c.if-is_nothing.false c.is_nothing.ensures.neither in
    tells c.args.line.now (Ok (Some c.in-Some.command)) (lone_told c.in-Ok.text.now c.args.line.now c.in-Ok.ensures.cases.0 c.in-Ok.ensures.cases.1 some (asked_of c.in-Some.command) c.in-Some.ensures.0 c.in-Some.ensures.1)

pub returns-in-Some-clause-sized : goal.returns-in-Some-clause-sized
returns-in-Some-clause-sized c =
    let some = something c.in-Ok.text.now c.args.line.now c.in-Ok.ensures.cases.0 _ c.if-is_nothing.false c.is_nothing.ensures.neither in
    sized_command c.args.line.now (asks (asked_of c.in-Some.command)) (omega (arith, c.requires)) (lone_told c.in-Ok.text.now c.args.line.now c.in-Ok.ensures.cases.0 c.in-Ok.ensures.cases.1 some (asked_of c.in-Some.command) c.in-Some.ensures.0 c.in-Some.ensures.1)

pub returns-in-Some-clause-nested : goal.returns-in-Some-clause-nested
returns-in-Some-clause-nested c =
    let some = something c.in-Ok.text.now c.args.line.now c.in-Ok.ensures.cases.0 _ c.if-is_nothing.false c.is_nothing.ensures.neither in
    nested_command c.args.line.now (asks (asked_of c.in-Some.command)) (omega (arith, c.requires)) (lone_told c.in-Ok.text.now c.args.line.now c.in-Ok.ensures.cases.0 c.in-Ok.ensures.cases.1 some (asked_of c.in-Some.command) c.in-Some.ensures.0 c.in-Some.ensures.1)

-- a line with a command
command_reading : (c : goal.In-Ok-read_command) → IsCommandReading c.args.line.now (asks (asked_of c.in-Ok-read_command.command))
command_reading c =
    let some = something c.in-Ok.text.now c.args.line.now c.in-Ok.ensures.cases.0 _ c.if-is_nothing.false c.is_nothing.ensures.neither in
    command_told c.in-Ok.text.now c.args.line.now c.in-Ok.ensures.cases.0 c.in-Ok.ensures.cases.1 some (asked_of c.in-Ok-read_command.command) c.in-Ok-read_command.ensures

pub returns-in-Ok-read_command-clause-told : goal.returns-in-Ok-read_command-clause-told
returns-in-Ok-read_command-clause-told c = command_reading c

pub returns-in-Ok-read_command-clause-only : goal.returns-in-Ok-read_command-clause-only
returns-in-Ok-read_command-clause-only c = tells c.args.line.now (Ok (Some c.in-Ok-read_command.command)) (command_reading c)

pub returns-in-Ok-read_command-clause-sized : goal.returns-in-Ok-read_command-clause-sized
returns-in-Ok-read_command-clause-sized c = sized_command c.args.line.now (asks (asked_of c.in-Ok-read_command.command)) (omega (arith, c.requires)) (command_reading c)

pub returns-in-Ok-read_command-clause-nested : goal.returns-in-Ok-read_command-clause-nested
returns-in-Ok-read_command-clause-nested c = nested_command c.args.line.now (asks (asked_of c.in-Ok-read_command.command)) (omega (arith, c.requires)) (command_reading c)

pub returns-in-Err-clause-told : goal.returns-in-Err-clause-told
returns-in-Err-clause-told c =
    let some = something c.in-Ok.text.now c.args.line.now c.in-Ok.ensures.cases.0 _ c.if-is_nothing.false c.is_nothing.ensures.neither in
    refused_told c.in-Ok.text.now c.args.line.now c.in-Ok.ensures.cases.0 c.in-Ok.ensures.cases.1 some c.in-Err.fault c.in-Err.ensures c.from.result c.from.ensures

pub returns-in-Err-clause-only : goal.returns-in-Err-clause-only
returns-in-Err-clause-only c =
    let some = something c.in-Ok.text.now c.args.line.now c.in-Ok.ensures.cases.0 _ c.if-is_nothing.false c.is_nothing.ensures.neither in
    tells c.args.line.now (Err c.from.result) (refused_told c.in-Ok.text.now c.args.line.now c.in-Ok.ensures.cases.0 c.in-Ok.ensures.cases.1 some c.in-Err.fault c.in-Err.ensures c.from.result c.from.ensures)

pub returns-in-Err-clause-no_memory : goal.returns-in-Err-clause-no_memory
returns-in-Err-clause-no_memory c = λ takes is.
    let some = something c.in-Ok.text.now c.args.line.now c.in-Ok.ensures.cases.0 _ c.if-is_nothing.false c.is_nothing.ensures.neither in
    let more : IsLone c.in-Ok.text.now → ⊥ = search rules in
    memory_taken c.in-Ok.text.now c.args.line.now c.in-Ok.ensures.cases.0 c.in-Ok.ensures.cases.1 some more takes
