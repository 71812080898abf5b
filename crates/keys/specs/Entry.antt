-- What a table's bytes mean, the key table's or the MD5 table's: document 01, "Key table (house bytes)", and document 02, Tickets 4, 9
-- and 10. A later kind of entry moves this file.
-- Any list of bytes has a meaning: a byte that is not there counts as 0, and the numbers 10 to 17 (specs/Table.antt) say what is refused.
use Rattle.std.specs.Prelude.{ℕ, zero, suc, ◌+◌, ◌*◌, ◌-◌, ◌/◌, ◌%◌, Bool, cond, ◌&&◌, ◌||◌, List, [], ◌∷◌, ◌++◌, length, get_or, take}
use Rattle.std.specs.Prelude.{drop, replicate, leb, eqb}
use Rattle.octets.specs.Octets.{get16}
use Rattle.keys.specs.Algorithm.{mac_bytes_of}
use Rattle.keys.specs.declared.entry.Side.{Side}
use Rattle.keys.specs.declared.entry.Selector.{Selector}
use Rattle.keys.specs.declared.entry.Ids.{Ids}
use Rattle.keys.specs.declared.entry.Secret.{Secret}
use Rattle.keys.specs.declared.entry.Entry.{Entry}

-- "kind 4 (IPv4) has 103 bytes, kind 6 (IPv6) 127"; document 02, Ticket 4: "Add entry kinds 5 and 7"
unfoldable pub known_kind_of : ℕ → Bool
known_kind_of k = leb 4 k && leb k 7

-- "like 4 and 6 with one more byte": one for kinds 5 and 7, none for 4 and 6
unfoldable pub extra : ℕ → ℕ
extra k = k % 2

-- the family of an entry of the kind: IPv4 for 4 and 5, IPv6 for 6 and 7
unfoldable pub family_of_lem : ℕ → ℕ
family_of_lem k = k - extra k

-- the families: IPv4 and IPv6
unfoldable pub is_family_of : ℕ → Bool
is_family_of f = eqb f 4 || eqb f 6

-- 103 and 127 bytes, and the one more
unfoldable pub body : ℕ → ℕ
body k = cond (eqb (family_of_lem k) 4) 103 127 + extra k

-- an entry: "one byte of kind, then a body"
abbrev pub size : ℕ → ℕ
size k = 1 + body k

-- bytes of an address of the family
unfoldable pub width : ℕ → ℕ
width f = cond (eqb f 4) 4 16

-- an address in its field of sixteen bytes: IPv4 uses the first four, the rest is zero here and looked at by nobody
abbrev pub padded : List ℕ → List ℕ
padded s = s ++ replicate (16 - length s) 0

-- one side: its ports stand at `ports`, its address of w bytes at `at` with the prefix length behind it
unfoldable pub side_of : ℕ → ℕ → ℕ → List ℕ → Side
side_of w ports at e =
    record { low = get16 e ports; high = get16 e (ports + 2); bits = get_or e (at + w) 0; address = padded (take w (drop at e)) }

-- of an entry of kind k: "local port low and high, remote port low and high (two bytes each, big-endian, ends included); local address,
-- its prefix length; remote address, its prefix length"
unfoldable pub selector_of_lem : ℕ → List ℕ → Selector
selector_of_lem k e =
    record {
      family = family_of_lem k;
      local = side_of (width (family_of_lem k)) 5 13 e;
      remote = side_of (width (family_of_lem k)) 9 (14 + width (family_of_lem k)) e;
    }

-- "SendID, RecvID"
unfoldable pub ids_of : List ℕ → Ids
ids_of e = record { send = get_or e 3 0; recv = get_or e 4 0 }

-- where the two sides end
abbrev pub sides_end_of : ℕ → ℕ
sides_end_of k = 15 + 2 * width (family_of_lem k)

-- "one more byte, 4 to 16, before the key length": the MAC's length. Where the kind has no such byte, it is the algorithm's.
unfoldable pub mac_length_of : ℕ → List ℕ → ℕ
mac_length_of k e = cond (eqb (extra k) 1) (get_or e (sides_end_of k) 0) (mac_bytes_of (get_or e 2 0))

-- "flags .., algorithm", and "key length 1 to 80; the key, padded with zeros to 80"
unfoldable pub secret_of_lem : ℕ → List ℕ → Secret
secret_of_lem k e =
    record {
      flags = get_or e 1 0;
      algorithm = get_or e 2 0;
      mac_bytes = mac_length_of k e;
      key_len = get_or e (sides_end_of k + extra k) 0;
      key = take 80 (drop (sides_end_of k + extra k + 1) e);
    }

-- the entry whose kind is the first byte of e, whatever stands behind its own bytes
unfoldable pub entry_of : List ℕ → Entry
entry_of e = record { selector = selector_of_lem (get_or e 0 0) e; ids = ids_of e; secret = secret_of_lem (get_or e 0 0) e }

-- "flags (1: all options covered by the MAC; 0: only TCP-AO)": the lowest bit says it
abbrev pub all_options : Secret → Bool
all_options s = eqb (s.flags % 2) 1

-- document 02, Ticket 10: "flags 2 for the local and 4 for the remote side, under which that side's address and port count as zero"
abbrev pub local_hidden_of : Secret → Bool
local_hidden_of s = eqb (s.flags / 2 % 2) 1

abbrev pub remote_hidden : Secret → Bool
remote_hidden s = eqb (s.flags / 4 % 2) 1

-- the master key: as many bytes as its length says
abbrev pub key_of : Secret → List ℕ
key_of s = take s.key_len s.key

-- what begins at some byte of the table, whose bytes from there on are s: whether its kind is known, whether it is 5 or 7, whether it is
-- there whole, and the entry that it then is
pub record Item : Type 0 where
  pub kind-known : Bool
  pub extended : Bool
  pub whole : Bool
  pub entry : Entry

unfoldable pub item : List ℕ → Item
item s =
    record {
      kind-known = known_kind_of (get_or s 0 0);
      extended = eqb (extra (get_or s 0 0)) 1;
      whole = leb (size (get_or s 0 0)) (length s);
      entry = entry_of s;
    }

-- at byte `at` of a table
abbrev pub item_at : List ℕ → ℕ → Item
item_at t at = item (drop at t)

abbrev pub sound : Item → Bool
sound x = x.kind-known && x.whole

-- what begins one after another, each where the one before ends; n more bytes belong to the entry before.
-- Behind an unknown kind or a cut entry there is nothing.
unfoldable pub items : ℕ → List ℕ → List Item
items n [] = []
items (suc n) (b ∷ t) = items n t
items zero (b ∷ t) = item (b ∷ t) ∷ cond (sound (item (b ∷ t))) (items (body b) t) []

unfoldable pub entries_of : List Item → List Entry
entries_of [] = []
entries_of (x ∷ l) = cond (sound x) (x.entry ∷ entries_of l) []

-- the entries that the bytes mean. A table that is refused has those up to the first unknown kind or cut entry, however many.
abbrev pub entries : List ℕ → List Entry
entries t = entries_of (items 0 t)
