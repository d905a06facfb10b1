use Rattle.std.proofs.Common.{◌≡◌, fold, codes, decimal, bit_xor, ap, rules}
use Rattle.std.proofs.lemmas.List.Sums.{fold-append}
use Rattle.argus_store.specs.Summing.{after_byte}
use Rattle.argus_store.proofs.summing.sum_of.Goals as goal

pub returns : goal.returns
returns c =
    let a : c.with_bytes-rest.result ≡ fold after_byte 4294967295 c.args.name.now = search rules in
    let b : c.with_bytes-rest-2.result ≡ fold after_byte c.with_bytes-rest.result (codes " ") = search rules in
    let d : c.with_bytes-rest-3.result ≡ fold after_byte c.with_bytes-rest-2.result (decimal c.args.first)
    = search rules in
    let e : c.with_bytes-rest-4.result ≡ fold after_byte c.with_bytes-rest-3.result (codes " ") = search rules in
    let f : c.with_bytes-rest-5.result ≡ fold after_byte c.with_bytes-rest-4.result (decimal c.args.before)
    = search rules in
    let h : c.with_bytes-rest-6.result ≡ fold after_byte c.with_bytes-rest-5.result (codes "\n") = search rules in
    let i : c.with_bytes.result ≡ fold after_byte c.with_bytes-rest-6.result c.args.lines.now = search rules in
    ap (λ n. bit_xor n 4294967295) (simp (i, h, f, e, d, b, a, fold-append))
