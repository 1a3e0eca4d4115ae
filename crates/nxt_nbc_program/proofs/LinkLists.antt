-- The links of blocks, with one block more.
use Rattle.std.proofs.Common.{◌≡◌, ℕ, suc, ◌+◌, ◌<◌, Bool, ◌||◌, cond, List, [], ◌∷◌, ◌++◌, length, map, take, get_or, Option, None, refl, sym, ap, ◌∙◌, arith}
use Rattle.std.specs.Prelude.{if◌then◌else◌, count_by, filter_map, flat_map}
use Rattle.std.specs.List.{enumerate_from, cons_option}
use Rattle.std.proofs.lemmas.List.{map-append, length-map, take_more, length-take-le}
use Rattle.std.proofs.lemmas.List.Sums.{sum_by-cons}
use Rattle.nxt_model.specs.Nbc.Text.{Source, Block, block_named, dependents_of, exited_by, followed_by, followers_of, holds_number, numbered, once, ordered, preceded_by}
use Rattle.nxt_nbc_names.specs.BlocksSeen.{block_seen}
use Rattle.nxt_nbc_names.specs.Blocks.{main_first}
use Rattle.nxt_nbc_names.specs.declared.blocks.Block.{Block as ProgramBlock}
use Rattle.nxt_nbc_names.proofs.Laws.Blocks.{ordered_is}
use Rattle.nxt_nbc_program.specs.Links.{follower_of, follows, links, links_of, lowers}
use Rattle.nxt_nbc_program.specs.LinksSeen.{links_seen}
use Rattle.nxt_nbc_program.specs.declared.links.Links.{Links}
use Rattle.nxt_nbc_program.proofs.BlockNumbers.{main_first_count}

-- ---- followers

by_followers : (src : Source) (k : ℕ) (bs : List Block) → filter_map (follows k) (map (follower_of src) bs)
    ≡ filter_map (λ b. if holds_number (flat_map (followed_by src) b.items) k then block_named src b.name else None) bs
by_followers src k [] = refl
by_followers src k (b ∷ bs) = ap (cons_option (follows k (follower_of src b))) (by_followers src k bs)

-- what a thread lowers, by its followers
pub dependents_by : (src : Source) (k : ℕ) (b : Block) (fs : List (Option ℕ × List ℕ)) → fs ≡ map (follower_of src) src.blocks
    → once [] (flat_map (preceded_by src) b.items ++ filter_map (follows k) fs) ≡ once [] (flat_map (preceded_by src) b.items ++ followers_of src k)
dependents_by src k b fs is =
    ap (λ ks. once [] (flat_map (preceded_by src) b.items ++ ks)) (ap (filter_map (follows k)) is ∙ by_followers src k src.blocks)

-- ---- blocks by their numbers

enumerate_more : {X : Type 0} (n : ℕ) (xs : List X) (x : X) → enumerate_from n (xs ++ x ∷ []) ≡ enumerate_from n xs ++ (n + length xs, x) ∷ []
enumerate_more n [] x = ap (λ m. (m, x) ∷ []) (let e : n ≡ n + 0 = omega arith in e)
enumerate_more n (y ∷ xs) x =
    ap (λ ys. (n, y) ∷ ys) (enumerate_more (n + 1) xs x ∙ ap (λ m. enumerate_from (n + 1) xs ++ (m, x) ∷ []) (let e : n + 1 + length xs ≡ n + suc (length xs) = omega arith in e))

-- what a function gives of numbered blocks, with one block more
pub numbered_more : {Y : Type 0} (f : ℕ × Block → Y) (bs : List ProgramBlock) (i : ℕ) (b : ProgramBlock) → i < length bs → b ≡ get_or bs i b
    → map f (enumerate_from 0 (map block_seen (take i bs))) ++ f (i, block_seen b) ∷ [] ≡ map f (enumerate_from 0 (map block_seen (take (i + 1) bs)))
numbered_more f bs i b within at =
    let front = map block_seen (take i bs) in
    let last : ℕ → List (ℕ × Block) = λ n. (n, block_seen b) ∷ [] in
    let long = length-map (take i bs) block_seen ∙ length-take-le i bs (omega (arith, within)) in
    let many : 0 + length front ≡ i = omega (arith, long) in
    sym (ap (λ xs. map f (enumerate_from 0 (map block_seen xs))) (take_more bs i b within ∙ ap (λ x. take i bs ++ x ∷ []) (sym at))
    ∙ ap (λ xs. map f (enumerate_from 0 xs)) (map-append block_seen (take i bs) (b ∷ []))
    ∙ ap (map f) (enumerate_more 0 front (block_seen b))
    ∙ map-append f (enumerate_from 0 front) (last (0 + length front))
    ∙ ap (λ n. map f (enumerate_from 0 front) ++ f (n, block_seen b) ∷ []) many)

pub links_pushed : (src : Source) (bs : List ProgramBlock) (i : ℕ) (b : ProgramBlock) → i < length bs → b ≡ get_or bs i b → (ls more : List Links) (l : Links)
    → more ≡ ls ++ l ∷ [] → map links_seen ls ≡ map (links src) (enumerate_from 0 (map block_seen (take i bs)))
    → l.dependents ≡ dependents_of src i (block_seen b) → l.exits ≡ flat_map (exited_by src) (block_seen b).items
    → map links_seen more ≡ map (links src) (enumerate_from 0 (map block_seen (take (i + 1) bs)))
links_pushed src bs i b within at ls more l pushed so_far lowered exits =
    let front = map (links src) (enumerate_from 0 (map block_seen (take i bs))) in
    ap (map links_seen) pushed
    ∙ map-append links_seen ls (l ∷ [])
    ∙ ap (λ xs. xs ++ links_seen l ∷ []) so_far
    ∙ ap (λ ks. front ++ (ks, l.exits) ∷ []) lowered
    ∙ ap (λ ks. front ++ (dependents_of src i (block_seen b), ks) ∷ []) exits
    ∙ numbered_more (links src) bs i b within at

-- all of them
pub links_all : (src : Source) (bs : List Block) → bs ≡ main_first src.blocks → map (links src) (enumerate_from 0 bs) ≡ links_of src
links_all src bs is = ap (λ xs. map (links src) (enumerate_from 0 xs)) (is ∙ sym (ordered_is src))

-- as many as blocks
enumerate_count : {X : Type 0} (n : ℕ) (xs : List X) → length (enumerate_from n xs) ≡ length xs
enumerate_count n [] = refl
enumerate_count n (x ∷ xs) = ap suc (enumerate_count (n + 1) xs)

pub links_count : (src : Source) (ls : List (List ℕ × List ℕ)) → ls ≡ links_of src → length ls ≡ length src.blocks
links_count src ls is =
    ap (λ xs. length xs) is ∙ length-map (numbered src) (links src) ∙ enumerate_count 0 (ordered src) ∙ ap (λ bs. length bs) (ordered_is src)
    ∙ main_first_count src.blocks

-- how many of them lower block k
count_mapped : {X Y : Type 0} (g : X → Y) (p : Y → Bool) (xs : List X) → count_by (λ x. p (g x)) xs ≡ count_by p (map g xs)
count_mapped g p [] = refl
count_mapped g p (x ∷ xs) =
    sum_by-cons (λ y. cond (p (g y)) 1 0) x xs ∙ ap (λ n. cond (p (g x)) 1 0 + n) (count_mapped g p xs)
    ∙ sym (sum_by-cons (λ y. cond (p y) 1 0) (g x) (map g xs))

pub lowering_count : (src : Source) (k : ℕ) (ls : List Links) → map links_seen ls ≡ links_of src
    → count_by (λ l. lowers k (links_seen l)) ls
    ≡ count_by (λ x. holds_number (dependents_of src x.0 x.1) k || holds_number (flat_map (exited_by src) x.1.items) k) (numbered src)
lowering_count src k ls is =
    count_mapped links_seen (lowers k) ls ∙ ap (count_by (lowers k)) is ∙ sym (count_mapped (links src) (lowers k) (numbered src))
