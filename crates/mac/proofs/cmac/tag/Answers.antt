use Rattle.std.proofs.Common.{◌≡◌, ℕ, List, ap, ◌∙◌}
use Rattle.mac.specs.Aes.{cipher}
use Rattle.mac.specs.AesWords.{round_keys}
use Rattle.mac.specs.Cmac.{xor, double, subkey1, subkey2, last_block_of, tag}
use Rattle.mac.proofs.cmac.tag.Goals as goal

-- the subkeys, M_last, and the last application of AES
pub returns : goal.returns
unfolding tag
returns c =
    let ks = round_keys c.args.cipher.now.keys in
    let k1 : c.double-k1.result ≡ subkey1 ks = c.double-k1.ensures ∙ ap double c.encrypt.ensures in
    let k2 : c.double-k2.result ≡ subkey2 ks = c.double-k2.ensures ∙ ap double k1 in
    let l : c.last_block-m.result ≡ last_block_of c.args.last.now (subkey1 ks) (subkey2 ks) =
    c.last_block-m.ensures ∙ (λ i. last_block_of c.args.last.now (k1 i) (k2 i)) in
    c.encrypt-2.ensures ∙ ap (cipher ks) (c.xor.ensures ∙ ap (λ (x : List ℕ). xor x c.args.chain) l)
