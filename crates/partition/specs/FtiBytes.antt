-- The ten bytes of an FTI, as EXT_FTI (RFC 5510, section 5.2.4.1) and a certificate have them.
use Rattle.std.specs.Prelude.{ℕ, List, [], ◌∷◌, ◌++◌, drop, slice_index}
use Rattle.byteorder.specs.Endian.{big_bytes, big_number}
use Rattle.partition.specs.Fti.{Fti, fti_from}

abbrev pub bytes_of_fti : Fti → List ℕ
bytes_of_fti f =
    big_bytes 6 f.transfer_length ++ big_bytes 2 f.symbol_length
    ++ (f.block_length ∷ f.max_symbols ∷ [])

abbrev pub fti_of_bytes : List ℕ → Fti
fti_of_bytes x =
    fti_from (big_number 6 x) (big_number 2 (drop 6 x)) (slice_index x 8) (slice_index x 9)
