-- Sums of known texts.
use Rattle.std.proofs.Common.{◌≡◌, codes, refl}
use Rattle.argus_store.specs.Summing.{shifted, crc32}

-- the check value of CRC-32; and in the log 0123 the sums of an opening with no line, and of the batch after it
check_value : crc32 (codes "123456789") ≡ 0xcbf43926
unfolding shifted
check_value = refl

opening_sum : crc32 (codes "0123 0 0\n") ≡ 175704143
unfolding shifted
opening_sum = refl

batch_sum : crc32 (codes "0123 0 175704143\n0 begin_top -> a0") ≡ 0xf401020e
unfolding shifted
batch_sum = refl
