-- The order of blocks by their numbers.
use Rattle.std.specs.Prelude.{List, ◌++◌, filter, not}
use Rattle.nxt_model.specs.Nbc.Text.{Block, is_main}

-- main first, and then the others
abbrev pub main_first : List Block → List Block
main_first bs = filter is_main bs ++ filter (λ b. not (is_main b)) bs
