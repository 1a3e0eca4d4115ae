-- Worked texts: tokens and forms.
use Rattle.std.proofs.Common.{◌≡◌, ℕ, [], ◌∷◌, refl, Ok, Err, Some, true}
use Rattle.std.specs.Prelude.{codes, negsuc, option_map}
use Rattle.nxt_model.specs.Nbc.Tokens.{Token, tokens_of, Name, Number, Quoted, lines_of}
use Rattle.nxt_model.specs.Nbc.Types.{base_at, shape_in}
use Rattle.nxt_model.specs.Nbc.Header.{header_at, constant_named, typed}
use Rattle.nxt_types.specs.Calls.{is_cluster_of}
use Rattle.nxt_types.specs.declared.calls.Call.TheVariants.{DrawText, ReadMessage}

abbrev token : ℕ → ℕ → ℕ → Token
token line at len = record { line = line; at = at; len = len }

unknown_byte : tokens_of (codes "$") ≡ Err 1
unknown_byte = refl

lone_minus : tokens_of (codes "a\n - 5") ≡ Err 2
lone_minus = refl

open_text : tokens_of (codes "a\n'b\n'") ≡ Err 2
open_text = refl

open_comment : tokens_of (codes "a\n\n/* b\n") ≡ Err 3
open_comment = refl

tokens : tokens_of (codes "L1: mov a.b, -0x1F // c\n/* x\n*/ 'ab' ; d") ≡ Ok
    (token 1 0 2 ∷ token 1 2 1 ∷ token 1 4 3 ∷ token 1 8 1 ∷ token 1 9 1 ∷ token 1 10 1 ∷ token 1 11 1 ∷ token 1 13 5
    ∷ token 3 32 4 ∷ [])
tokens = refl

lines : lines_of (codes "a -0x1F\n\n'b'") (token 1 0 1 ∷ token 1 2 5 ∷ token 3 9 3 ∷ [])
    ≡ (1, Name (codes "a") ∷ Number (negsuc 30) ∷ []) ∷ (3, Quoted (codes "b") ∷ []) ∷ []
lines = refl

draw_text_cluster : option_map (λ b. is_cluster_of DrawText (shape_in (header_at 0 1) (typed b 0))) (base_at (header_at 0 1) 2 (codes "TDrawText")) ≡ Some true
draw_text_cluster = refl

read_message_cluster : option_map (λ b. is_cluster_of ReadMessage (shape_in (header_at 0 1) (typed b 0))) (base_at (header_at 0 1) 2 (codes "TMessageRead")) ≡ Some true
read_message_cluster = refl

power : constant_named (codes "Power") ≡ Some 2
power = refl

last_property : constant_named (codes "RotationCount") ≡ Some 14
last_property = refl
