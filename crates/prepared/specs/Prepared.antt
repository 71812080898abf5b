-- What a prepared table's bytes mean: document 02, Ticket 8. The form is ours; docs/BOUNDARY.md, "The prepared form", has it byte by byte.
-- Two counts of two bytes each, of the key entries and of the MD5 entries; then four columns with a byte of each entry, the key entries
-- first: SendIDs, RecvIDs, remote prefix lengths, marks; then a slot of 24 bytes of each, then a back of 101 bytes of each. So a search
-- goes over columns. Nothing is stored twice: the mark, a sum of the remote address's bytes, stands in the place of its last byte.
-- "A prepared table with a count or an entry that valid bytes could not hold is refused with 44": every stored byte string reads as an
-- entry that valid bytes could hold, since what a table refuses with 11 or 13 to 16 is brought to a value that it does not refuse. So 44
-- is left for the counts and the length.
use Rattle.std.specs.Prelude.{ℕ, zero, suc, ◌+◌, ◌*◌, ◌-◌, ◌/◌, ◌%◌, ◌^◌, max, min, Bool, cond, ◌&&◌, List, [], ◌∷◌, ◌++◌, length, get_or}
use Rattle.std.specs.Prelude.{take, drop, replicate, leb, eqb}
use Rattle.octets.specs.Octets.{get16, bytes16}
use Rattle.keys.specs.Entry.{width}
use Rattle.keys.specs.Match.{fixed}
use Rattle.keys.specs.declared.entry.Side.{Side}
use Rattle.keys.specs.declared.entry.Selector.{Selector}
use Rattle.keys.specs.declared.entry.Ids.{Ids}
use Rattle.keys.specs.declared.entry.Secret.{Secret}
use Rattle.keys.specs.declared.entry.Entry.{Entry}
use Rattle.keys.specs.declared.table.TableKind.{TableKind}
use Rattle.keys.specs.declared.table.TableKind.TheVariants.{Keys, Md5}

-- The counts and the length.

-- "Raise 64 entries to 1,024", in either table
abbrev pub max_entries : ℕ
max_entries = 1024

abbrev pub key_count_of : List ℕ → ℕ
key_count_of b = get16 b 0

abbrev pub md5_count : List ℕ → ℕ
md5_count b = get16 b 2

abbrev pub total : List ℕ → ℕ
total b = key_count_of b + md5_count b

-- how many bytes so many entries have, of both tables
abbrev pub prepared_bytes : ℕ → ℕ
prepared_bytes n = 4 + 129 * n

-- what is not refused with 44
unfoldable pub fits : List ℕ → Bool
fits b = leb (key_count_of b) max_entries && (leb (md5_count b) max_entries && eqb (length b) (prepared_bytes (total b)))

-- An entry brought to one that valid bytes of the table of the kind could hold.

-- the first n of a byte's eight bits, the others zero
abbrev pub kept : ℕ → ℕ → ℕ
kept n x = x / 2 ^ (8 - n) * 2 ^ (8 - n)

-- the first n bits of an address, the others zero
unfoldable pub clear : ℕ → List ℕ → List ℕ
clear n [] = []
clear n (x ∷ s) = kept (min n 8) x ∷ clear (n - 8) s

unfoldable pub clean_family : ℕ → ℕ
clean_family f = cond (eqb f 4) 4 6

-- the ports in their order, no more bits than an address of the family has, and none set past them
unfoldable pub clean_side : ℕ → Side → Side
clean_side f s =
    record {
      low = min s.low s.high;
      high = max s.low s.high;
      bits = fixed f s.bits;
      address = clear (fixed f s.bits) s.address;
    }

unfoldable pub clean_selector : Selector → Selector
clean_selector s =
    record {
      family = clean_family s.family;
      local = clean_side (clean_family s.family) s.local;
      remote = clean_side (clean_family s.family) s.remote;
    }

-- no less than a and no more than b
abbrev pub within : ℕ → ℕ → ℕ → ℕ
within a b x = max a (min x b)

-- the first n bytes of a key, padded with zeros to 80
abbrev pub cut : ℕ → List ℕ → List ℕ
cut n k = take n k ++ replicate (80 - n) 0

unfoldable pub clean_secret : TableKind → Secret → Secret
clean_secret Keys s =
    record {
      flags = s.flags % 8;
      algorithm = within 1 3 s.algorithm;
      mac_bytes = within 4 16 s.mac_bytes;
      key_len = within 1 80 s.key_len;
      key = cut (within 1 80 s.key_len) s.key;
    }
clean_secret Md5 s =
    record {
      flags = 0;
      algorithm = 19;
      mac_bytes = 16;
      key_len = within 1 80 s.key_len;
      key = cut (within 1 80 s.key_len) s.key;
    }

unfoldable pub clean_ids : TableKind → Ids → Ids
clean_ids Keys i = i
clean_ids Md5 i = record { send = 0; recv = 0 }

unfoldable pub clean : TableKind → Entry → Entry
clean kind e =
    record { selector = clean_selector e.selector; ids = clean_ids kind e.ids; secret = clean_secret kind e.secret }

-- One entry from its front f and its back r. A front is not stored so: `front_at_lem` puts it together from the columns and the slot.

-- front: SendID, RecvID, remote prefix length, family; remote address (16); remote port low and high, local port low and high (two bytes
-- each, big-endian)
-- back: flags, algorithm, MAC bytes, key length, local prefix length; local address (16); key (80)
unfoldable pub front_ids : List ℕ → Ids
front_ids f = record { send = get_or f 0 0; recv = get_or f 1 0 }

abbrev pub raw_remote : List ℕ → Side
raw_remote f = record { low = get16 f 20; high = get16 f 22; bits = get_or f 2 0; address = take 16 (drop 4 f) }

abbrev pub raw_local : List ℕ → List ℕ → Side
raw_local f r = record { low = get16 f 24; high = get16 f 26; bits = get_or r 4 0; address = take 16 (drop 5 r) }

unfoldable pub raw_selector : List ℕ → List ℕ → Selector
raw_selector f r = record { family = get_or f 3 0; local = raw_local f r; remote = raw_remote f }

unfoldable pub raw_secret : List ℕ → Secret
raw_secret r =
    record {
      flags = get_or r 0 0;
      algorithm = get_or r 1 0;
      mac_bytes = get_or r 2 0;
      key_len = get_or r 3 0;
      key = take 80 (drop 21 r);
    }

unfoldable pub raw_entry : List ℕ → List ℕ → Entry
raw_entry f r = record { selector = raw_selector f r; ids = front_ids f; secret = raw_secret r }

abbrev pub stored_entry : TableKind → List ℕ → List ℕ → Entry
stored_entry kind f r = clean kind (raw_entry f r)

-- The entries, where there are n in all.

abbrev pub octet_sum_of : List ℕ → ℕ
octet_sum_of [] = 0
octet_sum_of (x ∷ s) = x + octet_sum_of s

-- the mark of an address of the family
abbrev pub mark_of : ℕ → List ℕ → ℕ
mark_of f a = octet_sum_of (take (width f) a) % 256

-- an address of the family in its field, from its mark and the bytes before its last
unfoldable pub address_of : ℕ → ℕ → List ℕ → List ℕ
address_of f mark a =
    take (width f - 1) a ++ ((mark + (256 - octet_sum_of (take (width f - 1) a) % 256)) % 256 ∷ replicate (16 - width f) 0)

-- the columns and slots: family; remote address without its last byte, IPv4 in the first three of fifteen bytes; the four ports
abbrev pub send_at : List ℕ → ℕ → ℕ → ℕ
send_at b n i = get_or b (4 + i) 0

abbrev pub recv_at : List ℕ → ℕ → ℕ → ℕ
recv_at b n i = get_or b (4 + n + i) 0

abbrev pub bits_at : List ℕ → ℕ → ℕ → ℕ
bits_at b n i = get_or b (4 + 2 * n + i) 0

abbrev pub mark_at : List ℕ → ℕ → ℕ → ℕ
mark_at b n i = get_or b (4 + 3 * n + i) 0

abbrev pub slot_at : List ℕ → ℕ → ℕ → List ℕ
slot_at b n i = take 24 (drop (4 + 4 * n + 24 * i) b)

-- the front put together, and the back
unfoldable pub front_at_lem : List ℕ → ℕ → ℕ → List ℕ
front_at_lem b n i =
    (send_at b n i ∷ recv_at b n i ∷ bits_at b n i ∷ get_or (slot_at b n i) 0 0 ∷ [])
    ++ (address_of (clean_family (get_or (slot_at b n i) 0 0)) (mark_at b n i) (take 15 (drop 1 (slot_at b n i)))
    ++ take 8 (drop 16 (slot_at b n i)))

abbrev pub back_at : List ℕ → ℕ → ℕ → List ℕ
back_at b n i = take 101 (drop (4 + 28 * n + 101 * i) b)

-- entry i
unfoldable pub stored_at : TableKind → List ℕ → ℕ → ℕ → Entry
stored_at kind b n i = stored_entry kind (front_at_lem b n i) (back_at b n i)

-- k of n entries, from entry i on
unfoldable pub stored_from : TableKind → List ℕ → ℕ → ℕ → ℕ → List Entry
stored_from kind b n i zero = []
stored_from kind b n i (suc k) = stored_at kind b n i ∷ stored_from kind b n (i + 1) k

-- the key entries, then the MD5 entries; a table that does not fit has none
unfoldable pub key_part : List ℕ → List Entry
key_part b = cond (fits b) (stored_from Keys b (total b) 0 (key_count_of b)) []

unfoldable pub md5_part : List ℕ → List Entry
md5_part b = cond (fits b) (stored_from Md5 b (total b) (key_count_of b) (md5_count b)) []

-- How entries are written.

abbrev pub send_part : Entry → List ℕ
send_part e = e.ids.send ∷ []

abbrev pub recv_part : Entry → List ℕ
recv_part e = e.ids.recv ∷ []

abbrev pub bits_part : Entry → List ℕ
bits_part e = e.selector.remote.bits ∷ []

abbrev pub mark_part : Entry → List ℕ
mark_part e = mark_of e.selector.family e.selector.remote.address ∷ []

-- the address without its last byte
abbrev pub stored_address_of : ℕ → List ℕ → List ℕ
stored_address_of f a = take (width f - 1) a ++ replicate (16 - width f) 0

unfoldable pub ports_part : Entry → List ℕ
ports_part e =
    bytes16 e.selector.remote.low
    ++ (bytes16 e.selector.remote.high ++ (bytes16 e.selector.local.low ++ bytes16 e.selector.local.high))

unfoldable pub slot : Entry → List ℕ
slot e = e.selector.family ∷ (stored_address_of e.selector.family e.selector.remote.address ++ ports_part e)

unfoldable pub back : Entry → List ℕ
back e =
    (e.secret.flags ∷ e.secret.algorithm ∷ e.secret.mac_bytes ∷ e.secret.key_len ∷ e.selector.local.bits ∷ [])
    ++ (e.selector.local.address ++ e.secret.key)

-- the parts of all entries, one after another
unfoldable pub joined : (Entry → List ℕ) → List Entry → List ℕ
joined f [] = []
joined f (e ∷ l) = f e ++ joined f l

unfoldable pub columns : List Entry → List ℕ
columns l = joined send_part l ++ (joined recv_part l ++ (joined bits_part l ++ joined mark_part l))

unfoldable pub image : List Entry → List Entry → List ℕ
image keys md5s =
    bytes16 (length keys)
    ++ (bytes16 (length md5s) ++ (columns (keys ++ md5s) ++ (joined slot (keys ++ md5s) ++ joined back (keys ++ md5s))))
