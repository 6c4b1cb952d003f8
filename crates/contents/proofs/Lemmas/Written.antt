-- A sheet of bodies of bytes is a list of bytes.
use Rattle.std.specs.Prelude.{ℕ, suc, ◌+◌, List, [], ◌∷◌, ◌++◌, length, get_or}
use Rattle.std.proofs.Common.{arith}
use Rattle.numbers.specs.Little.{le_bytes, Bytes}
use Rattle.numbers.proofs.Laws.{bytes_append, le_bytes_lem}
use Rattle.contents.specs.Contents.{Part, codes_of, bodies_of, sizes_of, contents_size, entry, entries, contents_of, chain, join}

none_bytes : Bytes []
none_bytes i = omega arith

entry_bytes : (code offset size : ℕ) → Bytes (entry code offset size)
entry_bytes code offset size =
    bytes_append (le_bytes 2 code) (le_bytes 4 offset ++ le_bytes 4 size) (le_bytes_lem 2 code)
    (bytes_append (le_bytes 4 offset) (le_bytes 4 size) (le_bytes_lem 4 offset) (le_bytes_lem 4 size))

entries_bytes : (offset : ℕ) (codes sizes : List ℕ) → Bytes (entries offset codes sizes)
unfolding entries
entries_bytes offset [] sizes = none_bytes
entries_bytes offset (code ∷ codes) [] = none_bytes
entries_bytes offset (code ∷ codes) (size ∷ sizes) =
    bytes_append (entry code offset size) (entries (offset + size) codes sizes) (entry_bytes code offset size) (entries_bytes (offset + size) codes sizes)

contents_bytes : (codes sizes : List ℕ) → Bytes (contents_of codes sizes)
unfolding contents_of
contents_bytes codes sizes =
    bytes_append (le_bytes 2 (length codes)) (entries (contents_size (length codes)) codes sizes) (le_bytes_lem 2 (length codes))
    (entries_bytes (contents_size (length codes)) codes sizes)

chain_bytes : (bodies : List (List ℕ)) → ((i : ℕ) → Bytes (get_or bodies i [])) → Bytes (chain bodies)
unfolding chain
chain_bytes [] b = none_bytes
chain_bytes (body ∷ bodies) b = bytes_append body (chain bodies) (b 0) (chain_bytes bodies (λ i. b (suc i)))

pub join_bytes : (parts : List Part) → ((i : ℕ) → Bytes (get_or (bodies_of parts) i [])) → Bytes (join parts)
unfolding join
join_bytes parts b =
    bytes_append (contents_of (codes_of parts) (sizes_of (bodies_of parts))) (chain (bodies_of parts))
    (contents_bytes (codes_of parts) (sizes_of (bodies_of parts))) (chain_bytes (bodies_of parts) b)
