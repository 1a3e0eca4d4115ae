-- Each test is one of the operands' shapes among the structs.
use Rattle.std.proofs.Common.{rules}
use Rattle.nxt_nbc_kinds.proofs.between.answer.Goals as goal

pub returns-in-ConvertsTo : goal.returns-in-ConvertsTo
returns-in-ConvertsTo c =
    let t = c.args.structs.now in
    let test = c.converts.ensures t c.requires in
    let other = c.shape_at.ensures t in
    let own = c.shape_at-own.ensures t in
    search rules

pub returns-in-ElementConvertsTo : goal.returns-in-ElementConvertsTo
returns-in-ElementConvertsTo c =
    let t = c.args.structs.now in
    let test = c.converts-in-ElementConvertsTo.ensures t c.requires in
    let inner = c.element.ensures t in
    let other = c.shape_at-in-ElementConvertsTo.ensures t in
    let own = c.shape_at-own.ensures t in
    search rules

pub returns-in-IsElementOf : goal.returns-in-IsElementOf
returns-in-IsElementOf c =
    let t = c.args.structs.now in
    let test = c.converts-in-IsElementOf.ensures t c.requires in
    let inner = c.element-in-IsElementOf.ensures t in
    let other = c.shape_at-in-IsElementOf.ensures t in
    let own = c.shape_at-own.ensures t in
    search rules

pub returns-in-GoesInto : goal.returns-in-GoesInto
returns-in-GoesInto c =
    let t = c.args.structs.now in
    let test = c.goes_into.ensures t c.requires in
    let other = c.shape_at-in-GoesInto.ensures t in
    let own = c.shape_at-own.ensures t in
    search rules
