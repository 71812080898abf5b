-- What a prepared table is, as statements: document 02, Ticket 8. ReadLaws, HoldLaws and ImageLaws prove them.
use Rattle.std.specs.Prelude.{ℕ, ◌≤◌, true, ◌≡◌, List, [], ◌∷◌, ◌++◌, length, replicate}
use Rattle.octets.specs.Each.{Each, Octets}
use Rattle.keys.specs.Clash.{Formed}
use Rattle.keys.specs.Entry.{entries}
use Rattle.keys.specs.Places.{At}
use Rattle.keys.specs.Table.{loaded}
use Rattle.keys.specs.declared.entry.Entry.{Entry}
use Rattle.keys.specs.declared.table.TableKind.{TableKind}
use Rattle.keys.specs.declared.table.TableKind.TheVariants.{Keys, Md5}
use Rattle.std.specs.Prelude.{Ok}
use Rattle.prepared.specs.Prepared.{max_entries, key_count_of, md5_count, fits, key_part, md5_part, image}

-- RFC 2385, section 2.0: "the 16-byte MD5 digest"
abbrev pub Digest16 : Entry → Type 0
Digest16 e = e.secret.mac_bytes ≡ 16

-- no "entry that valid bytes could not hold" is there, whatever bytes these are: none that 13 to 16 refuse
abbrev pub KeysFormed : Type 0
KeysFormed = (b : List ℕ) → Each (Formed Keys) (key_part b)

abbrev pub Md5sFormed : Type 0
Md5sFormed = (b : List ℕ) → Each (Formed Md5) (md5_part b) × Each Digest16 (md5_part b)

-- there are valid bytes of a table of the kind that mean this entry and no other
abbrev pub HeldBy : TableKind → Entry → Type 0
HeldBy kind e = (t : List ℕ) × (loaded kind max_entries t ≡ Ok 1) × (entries t ≡ e ∷ []) × Octets t

-- literally: each entry that is there could be held by valid bytes
abbrev pub KeysHeld : Type 0
KeysHeld = (b : List ℕ) (i : ℕ) (e : Entry) → Octets b → At (key_part b) i e → HeldBy Keys e

abbrev pub Md5sHeld : Type 0
Md5sHeld = (b : List ℕ) (i : ℕ) (e : Entry) → Octets b → At (md5_part b) i e → HeldBy Md5 e

-- and there are as many as the counts say, where it is not refused
abbrev pub Counted : Type 0
Counted = (b : List ℕ) → fits b ≡ true
    → (length (key_part b) ≡ key_count_of b) × (length (md5_part b) ≡ md5_count b)
    × (key_count_of b ≤ max_entries) × (md5_count b ≤ max_entries)

-- what is written from valid bytes is not refused, and has the entries that the bytes mean
pub record ReadBack (k m : List ℕ) : Type 0 where
  pub fitting : fits (image (entries k) (entries m)) ≡ true
  pub count : key_count_of (image (entries k) (entries m)) ≡ length (entries k)
  pub keys : key_part (image (entries k) (entries m)) ≡ entries k
  pub md5s : md5_part (image (entries k) (entries m)) ≡ entries m

abbrev pub PreparedRead : Type 0
PreparedRead = (k m : List ℕ) (i j : ℕ) → Octets k → Octets m → loaded Keys max_entries k ≡ Ok i → loaded Md5 max_entries m ≡ Ok j
    → ReadBack k m

-- The form's bytes, as numerals (docs/BOUNDARY.md, "The prepared form"): two key entries of IPv4 in their order, and an MD5 entry of IPv6.
abbrev pub key_example : Entry
key_example =
    record {
      selector =
          record {
            family = 4;
            local = record { low = 258; high = 772; bits = 24; address = (10 ∷ 11 ∷ 12 ∷ []) ++ replicate 13 0 };
            remote = record { low = 1286; high = 1800; bits = 32; address = (20 ∷ 21 ∷ 22 ∷ 23 ∷ []) ++ replicate 12 0 };
          };
      ids = record { send = 61; recv = 84 };
      secret = record { flags = 5; algorithm = 2; mac_bytes = 13; key_len = 1; key = (90 ∷ []) ++ replicate 79 0 };
    }

-- one that matches every pair of IPv4
abbrev pub any_example : Entry
any_example =
    record {
      selector =
          record {
            family = 4;
            local = record { low = 0; high = 65535; bits = 0; address = replicate 16 0 };
            remote = record { low = 0; high = 65535; bits = 0; address = replicate 16 0 };
          };
      ids = record { send = 62; recv = 85 };
      secret = record { flags = 1; algorithm = 3; mac_bytes = 12; key_len = 2; key = (92 ∷ 93 ∷ []) ++ replicate 78 0 };
    }

abbrev pub md5_example : Entry
md5_example =
    record {
      selector =
          record {
            family = 6;
            local = record { low = 9; high = 9; bits = 8; address = (30 ∷ []) ++ replicate 15 0 };
            remote = record { low = 0; high = 65535; bits = 128; address = (200 ∷ 201 ∷ []) ++ (replicate 13 1 ++ (7 ∷ [])) };
          };
      ids = record { send = 0; recv = 0 };
      secret = record { flags = 0; algorithm = 19; mac_bytes = 16; key_len = 80; key = replicate 80 91 };
    }

-- the counts; SendIDs, RecvIDs, remote prefix lengths, marks; the slots; the backs. 86 is 20 + 21 + 22 + 23, and 165 is 200 + 201 + 13 + 7
-- less 256.
abbrev pub FormBytes : Type 0
FormBytes = image (key_example ∷ any_example ∷ []) (md5_example ∷ [])
    ≡ (0 ∷ 2 ∷ 0 ∷ 1 ∷ 61 ∷ 62 ∷ 0 ∷ 84 ∷ 85 ∷ 0 ∷ 32 ∷ 0 ∷ 128 ∷ 86 ∷ 0 ∷ 165 ∷ [])
    ++ ((4 ∷ 20 ∷ 21 ∷ 22 ∷ []) ++ (replicate 12 0 ++ ((5 ∷ 6 ∷ 7 ∷ 8 ∷ 1 ∷ 2 ∷ 3 ∷ 4 ∷ [])
    ++ ((4 ∷ []) ++ (replicate 15 0 ++ ((0 ∷ 0 ∷ 255 ∷ 255 ∷ 0 ∷ 0 ∷ 255 ∷ 255 ∷ [])
    ++ ((6 ∷ 200 ∷ 201 ∷ []) ++ (replicate 13 1 ++ ((0 ∷ 0 ∷ 255 ∷ 255 ∷ 0 ∷ 9 ∷ 0 ∷ 9 ∷ [])
    ++ ((5 ∷ 2 ∷ 13 ∷ 1 ∷ 24 ∷ 10 ∷ 11 ∷ 12 ∷ []) ++ (replicate 13 0 ++ ((90 ∷ []) ++ (replicate 79 0
    ++ ((1 ∷ 3 ∷ 12 ∷ 2 ∷ 0 ∷ []) ++ (replicate 16 0 ++ ((92 ∷ 93 ∷ []) ++ (replicate 78 0
    ++ ((0 ∷ 19 ∷ 16 ∷ 80 ∷ 8 ∷ 30 ∷ []) ++ (replicate 15 0 ++ replicate 80 91)))))))))))))))))))
