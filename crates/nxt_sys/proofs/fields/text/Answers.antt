-- The member's text.
use Rattle.std.proofs.Common.{◌≡◌, IfOk, subst}
use Rattle.nxt_types.specs.declared.calls.Field.TheVariants.{Text as a_text}
use Rattle.nxt_model.specs.Values.{bytes_of}
use Rattle.nxt_texts.specs.Texts.{bytes_in}
use Rattle.nxt_sys.proofs.Laws.Named.{member_some, member_value}
use Rattle.nxt_sys.proofs.fields.text.Goals as goal

pub text_of-requires-clause-named : goal.text_of-requires-clause-named
text_of-requires-clause-named c =
    let s = c.args.space.now.vars in
    member_some s c.args.cluster c.args.k c.entry_of.result a_text c.requires.group.named (c.entry_of.ensures s a_text c.requires)

pub text_of-requires-clause-text : goal.text_of-requires-clause-text
text_of-requires-clause-text c = (c.entry_of.ensures c.args.space.now.vars a_text c.requires).shape

pub returns-clause-bytes : goal.returns-clause-bytes
returns-clause-bytes c =
    let s = c.args.space.now.vars in
    subst
    (λ v. IfOk c.text_of.result (λ text. bytes_in text ≡ bytes_of v))
    (member_value s c.args.cluster c.args.k c.entry_of.result a_text (c.entry_of.ensures s a_text c.requires))
    c.text_of.ensures.bytes
