-- What a site in memory counts and tells.
use Rattle.std.specs.Prelude.{List, Option, Some, None, map, option_map, string_bytes, if◌then◌else◌}
use Rattle.ss_links.specs.Stores.{Files, files_of}
use Rattle.ss_site.specs.declared.memory_site.KeptTerm.{KeptTerm}
use Rattle.ss_site.specs.declared.memory_site.MemSite.{MemSite}
use Rattle.ss_site.specs.Sites.{Counts, LentParts, Term, Entries}
use Rattle.ss_site.specs.Tables.{entries_of, place_given}

module _ {T : Type 0} where
  abbrev pub term_of : KeptTerm T → Term T
  term_of t = record { reports = t.reports.items; journals = t.journals.items }

  abbrev pub site_counts : MemSite T → Counts
  site_counts s = record {
    faults = s.faults;
    refused = record { failed = s.failed; damaged = s.damaged };
    links = s.links;
    ends = s.ends;
    rests = s.rests;
  }

  abbrev pub site_lent : MemSite T → LentParts
  site_lent s = record {
    given = s.given;
    back = s.back;
    addresses = map string_bytes s.addresses.items;
    keepers = map place_given s.keepers.items;
    readings = None;
  }

  abbrev pub site_terms : MemSite T → Option (List (Term T))
  site_terms s = Some (map term_of s.terms.items)

  abbrev pub site_kept : MemSite T → Option Entries
  site_kept s = if s.is_told then Some (entries_of s.table) else None

  abbrev pub site_logs : MemSite T → Option Files
  site_logs s = option_map (λ store. files_of store.entries) s.logs
