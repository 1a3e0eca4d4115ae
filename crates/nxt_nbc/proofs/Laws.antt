-- What parsing tells of a text.

-- A text is refused by a first fault, or spells a program.
pub mod Decided
use Rattle.std.proofs.Common.{◌≡◌, ℕ, List, Option, Some, None, Ok, refl, sym, ap, ◌∙◌}
use Rattle.std.specs.Prelude.{IfSome}
use Rattle.nxt_types.specs.Refusals.{IsAccepted, IsRefusal}
use Rattle.nxt_model.specs.Nbc.Tokens.{Token, lines_of, tokens_of}
use Rattle.nxt_model.specs.Nbc.Forms.{formed}
use Rattle.nxt_model.specs.Nbc.Text.{program_of, source_of}
use Rattle.nxt_model.specs.Nbc.NbcRules.{TextFault, Broken, rank}
use Rattle.nxt_model.specs.TextProgram.{Text}
use Rattle.nxt_model.specs.declared.nbc.NbcProgram.{NbcProgram}
use Rattle.nxt_nbc_lines.specs.declared.fault.NbcFault.{NbcFault}
use Rattle.nxt_nbc.specs.Checked.{IsParsed, Spells}
use Rattle.nxt_nbc.specs.Faults.{IsRefused, fault_seen}

one_list : (text : List ℕ) (ts us : List Token) → tokens_of text ≡ Ok ts → tokens_of text ≡ Ok us → ts ≡ us
one_list text ts us e f = cc

-- a text spells at most one program
pub one_program : (text : List ℕ) (t u : Text) → Spells text t → Spells text u → t ≡ u
one_program text t u a b =
    a.tokens.2
    ∙ ap (λ ts. program_of (source_of (formed (lines_of text ts)).forms)) (one_list text a.tokens.0 b.tokens.0 a.tokens.1 b.tokens.1)
    ∙ sym b.tokens.2

no_fault : (text : List ℕ) (o : Option TextFault) → IsAccepted (Broken text) → IfSome o (IsRefusal (Broken text) rank) → o ≡ None
no_fault text None accepted h = refl
no_fault text (Some f) accepted h = absurd (accepted f h.broken)

-- a text that spells a program is refused for want of memory alone
pub not_refused : (text : List ℕ) (p : NbcProgram) (f : NbcFault) → IsParsed text p → IsRefused text f → fault_seen f ≡ None
not_refused text p f parsed refused = no_fault text (fault_seen f) parsed.accepted refused
