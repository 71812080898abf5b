-- How a search goes over the columns and slots: which entries can answer, and what a scan has passed. No reader needs this to know what a
-- prepared table means; the searches' contracts (src/stored.rt) say that by Prepared.antt alone.
use Rattle.std.specs.Prelude.{ℕ, ◌+◌, ◌*◌, ◌-◌, ◌/◌, ◌%◌, ◌^◌, ◌≤◌, ◌<◌, max, min, Bool, true, false, cond, ◌&&◌, ◌||◌, ◌≡◌, List, get_or}
use Rattle.std.specs.Prelude.{leb, ltb, eqb}
use Rattle.octets.specs.Octets.{get16}
pub use Rattle.octets.specs.Octets.{get64}
use Rattle.keys.specs.Entry.{width}
use Rattle.keys.specs.Match.{fixed, matches}
use Rattle.keys.specs.Table.{has_id_of}
use Rattle.keys.specs.declared.entry.Pair.{Pair}
use Rattle.keys.specs.declared.table.TableKind.{TableKind}
use Rattle.keys.specs.declared.table.TableKind.TheVariants.{Keys, Md5}
use Rattle.keys.specs.declared.table.By.{By}
use Rattle.keys.specs.declared.table.By.TheVariants.{Any, Send, Recv}
use Rattle.prepared.specs.Prepared.{clean_family, clean_selector, front_ids, raw_selector, send_at, recv_at, bits_at, mark_at}
use Rattle.prepared.specs.Prepared.{slot_at, mark_of}
use Rattle.prepared.specs.Prepared.{front_at_lem, back_at}
use Rattle.prepared.specs.declared.stored.Wanted.{Wanted}

-- the first n bits of two numbers of 64 bits agree
abbrev pub top : ℕ → ℕ → ℕ → Bool
top n x y = eqb (x / 2 ^ (64 - n)) (y / 2 ^ (64 - n))

-- how many first bits of the remote address are compared first: those of the first three bytes of IPv4, of the first eight of IPv6
abbrev pub near_bits : List ℕ → ℕ → ℕ
near_bits s bits = min bits (cond (eqb (get_or s 0 0) 4) 24 64)

unfoldable pub near_front_of : List ℕ → ℕ → ℕ → Bool
near_front_of s bits high = top (near_bits s bits) (get64 s 1) high

-- the last byte of an IPv4 address, from its mark and the three before it
abbrev pub last_byte_of : ℕ → ℕ → ℕ → ℕ → ℕ
last_byte_of m a b c = (m + (256 - (a + (b + (c + 0))) % 256)) % 256

-- the last bytes of two IPv4 addresses, where the prefix covers them
unfoldable pub near_last_of : ℕ → ℕ → ℕ → Bool
near_last_of x y bits = leb bits 24 || eqb (x / 2 ^ (32 - min bits 32)) (y / 2 ^ (32 - min bits 32))

-- bytes 7 to 14 of an IPv6 address (slot bytes 8 to 15), where the prefix covers them
unfoldable pub near_rest : List ℕ → ℕ → ℕ → Bool
near_rest s bits low = leb bits 64 || top (min bits 120 - 56) (get64 s 8) low

-- behind the first bits
unfoldable pub near_back_of : List ℕ → ℕ → ℕ → ℕ → ℕ → Bool
near_back_of s bits m high low =
    cond (eqb (get_or s 0 0) 4) (near_last_of (last_byte_of m (get_or s 1 0) (get_or s 2 0) (get_or s 3 0)) (high / 2 ^ 32 % 256) bits)
    (near_rest s bits low)

-- the local address of a back, by its two halves
abbrev pub local_bits : ℕ → List ℕ → ℕ
local_bits f r = fixed (clean_family f) (get_or r 4 0)

unfoldable pub near_local_of : ℕ → List ℕ → ℕ → ℕ → Bool
near_local_of f r upper lower =
    cond (leb (local_bits f r) 64) (top (local_bits f r) (get64 r 5) upper)
    (eqb (get64 r 5) upper && top (local_bits f r - 64) (get64 r 13) lower)

-- a port in the range whose two ends stand at `at`
abbrev pub port_in_lem : List ℕ → ℕ → ℕ → Bool
port_in_lem f at port = leb (min (get16 f at) (get16 f (at + 2))) port && leb port (max (get16 f at) (get16 f (at + 2)))

-- by the columns: a prefix shorter than an address, or the address's mark
abbrev pub possible : ℕ → ℕ → ℕ → ℕ → Bool
possible limit mark bits m = ltb bits limit || eqb m mark

-- of entry i of n, the remote address behind its first bits, and the local one
unfoldable pub alike : List ℕ → ℕ → ℕ → ℕ → ℕ → ℕ → ℕ → Bool
alike t n high low upper lower i =
    near_back_of (slot_at t n i) (bits_at t n i) (mark_at t n i) high low
    && near_local_of (get_or (slot_at t n i) 0 0) (back_at t n i) upper lower

-- entry i of n can match a pair with these ports and a remote address with these first bytes
unfoldable pub nearby : List ℕ → ℕ → ℕ → ℕ → ℕ → ℕ → ℕ → ℕ → Bool
nearby t n limit mark remote local high i =
    possible limit mark (bits_at t n i) (mark_at t n i)
    && (port_in_lem (slot_at t n i) 16 remote && (port_in_lem (slot_at t n i) 20 local
    && near_front_of (slot_at t n i) (bits_at t n i) high))

-- and with these addresses
unfoldable pub close : List ℕ → ℕ → ℕ → ℕ → ℕ → ℕ → ℕ → ℕ → ℕ → ℕ → ℕ → Bool
close t n limit mark remote local high low upper lower i =
    nearby t n limit mark remote local high i && alike t n high low upper lower i

abbrev pub id_at : By → List ℕ → ℕ → ℕ → Bool
id_at Any t n i = true
id_at (Send id) t n i = eqb (send_at t n i) id
id_at (Recv id) t n i = eqb (recv_at t n i) id

unfoldable pub candidate : By → List ℕ → ℕ → ℕ → ℕ → ℕ → ℕ → ℕ → ℕ → ℕ → ℕ → ℕ → Bool
candidate by t n limit mark remote local high low upper lower i =
    id_at by t n i && close t n limit mark remote local high low upper lower i

-- the same, where a search is asked with these numbers
abbrev pub nearby_of : List ℕ → ℕ → Wanted → ℕ → Bool
nearby_of t n w i = nearby t n w.limit w.mark w.remote w.local w.high i

abbrev pub alike_of : List ℕ → ℕ → Wanted → ℕ → Bool
alike_of t n w i = alike t n w.high w.low w.upper w.lower i

abbrev pub candidate_of : By → List ℕ → ℕ → Wanted → ℕ → Bool
candidate_of by t n w i = candidate by t n w.limit w.mark w.remote w.local w.high w.low w.upper w.lower i

-- the numbers of a pair
abbrev pub wanted_of : Pair → Wanted
wanted_of p =
    record {
      limit = 8 * width p.family;
      mark = mark_of p.family p.remote;
      remote = p.remote_port;
      local = p.local_port;
      high = get64 p.remote 0;
      low = get64 p.remote 7;
      upper = get64 p.local 0;
      lower = get64 p.local 8;
    }

-- where r says that no entry of the block that begins with entry i passes
abbrev pub NoneIn : (ℕ → Bool) → ℕ → Bool → Type 0
NoneIn test i r = r ≡ false → (j : ℕ) → i ≤ j → j < i + 32 → test j ≡ false

-- where r says that no entry of a block is possible, and none that has the ID
abbrev pub NoneClose : List ℕ → List ℕ → ℕ → ℕ → Bool → Type 0
NoneClose bits marks limit mark r =
    r ≡ false → (j : ℕ) → j < 32 → possible limit mark (get_or bits j 0) (get_or marks j 0) ≡ false

abbrev pub NoneNamed : List ℕ → List ℕ → List ℕ → ℕ → ℕ → ℕ → Bool → Type 0
NoneNamed ids bits marks id limit mark r =
    r ≡ false → (j : ℕ) → j < 32 → (eqb (get_or ids j 0) id && possible limit mark (get_or bits j 0) (get_or marks j 0)) ≡ false

-- entry i of n has the ID, as it is stored, and matches the pair
unfoldable pub hit : By → Pair → List ℕ → ℕ → ℕ → Bool
hit by p t n i = has_id_of by (front_ids (front_at_lem t n i))
    && matches (clean_selector (raw_selector (front_at_lem t n i) (back_at t n i))) p

-- r is the first entry from i on and before `end` that passes, or `end` if none does
pub record First (test : ℕ → Bool) (i end r : ℕ) : Type 0 where
  pub from : i ≤ r
  pub few : r ≤ end
  pub none : (j : ℕ) → i ≤ j → j < r → test j ≡ false
  pub there : r < end → test r ≡ true

-- a search by ID is one of the key entries
abbrev pub Asks : TableKind → By → Type 0
Asks Keys by = Unit {0}
Asks Md5 Any = Unit {0}
Asks Md5 (Send id) = ⊥
Asks Md5 (Recv id) = ⊥
